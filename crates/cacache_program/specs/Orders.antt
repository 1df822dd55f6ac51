-- What words ask for.
use Rattle.std.specs.Prelude.{if◌then◌else◌, ◌||◌, ℕ, Bool, List, [], ◌∷◌, Option, None, Some, String, is_some, option_and_then, option_map, slice_get, string_bytes}
use Rattle.cacache_program.specs.{declared.keep.{amounts.Measure.TheVariants.{Bytes, Seconds}, names.Word.{Word, TheVariants.{Prune, PlanPrune, Touch}}, options.Options.{Options}, orders.Order.{Order as Given}}, Amounts.{limit_in}, OptionTable.{word_in}, Options.{options_in}}

-- a name with its cache, the key that is touched, which is the cache again for other words, and what
-- its options say
pub record Order : Type 0 where
  pub word : Word
  pub cache : List ℕ
  pub key : List ℕ
  pub keep : Option (List ℕ)
  pub grace : Option ℕ
  pub size : Option ℕ
  pub age : Option ℕ
  pub lists : Bool
  pub durable : Bool
  pub anyway : Bool

-- the word at the place, if there is one
abbrev pub text_at : {A : Type 0} → List (String A) → Option ℕ → Option (List ℕ)
text_at words place = option_and_then (λ i. option_map string_bytes (slice_get words i)) place

-- the place, if the other one is none
abbrev pub unless : Option ℕ → Option ℕ → Option ℕ
unless (Some other) place = None
unless None place = place

-- where the cache is: behind all words that are no options
abbrev pub cache_in : Word → Options → Option ℕ
cache_in Prune o = o.third
cache_in PlanPrune o = o.third
cache_in Touch o = unless o.third o.second
cache_in word o = unless o.second o.first

-- where the key is; for other words the cache again
abbrev pub key_in : Word → Options → Option ℕ
key_in Touch o = o.first
key_in word o = cache_in word o

-- where the limit of bytes is
abbrev pub size_in : Word → Options → Option ℕ
size_in Prune o = o.first
size_in PlanPrune o = o.first
size_in word o = o.size

-- where the limit of seconds is
abbrev pub age_in : Word → Options → Option ℕ
age_in Prune o = o.second
age_in PlanPrune o = o.second
age_in word o = o.age

infixl 10 ◌>>=◌
abbrev ◌>>=◌ : {A B : Type 0} → Option A → (A → Option B) → Option B
o >>= f = option_and_then f o

-- what right words behind the name ask for: the cache is there, and numbers are numbers
abbrev pub right_order : {A : Type 0} → Word → Options → List (String A) → Option Order
right_order word o words = do
  cache ← text_at words (cache_in word o)
  key ← text_at words (key_in word o)
  grace ← limit_in Seconds (text_at words o.grace)
  size ← limit_in Bytes (text_at words (size_in word o))
  age ← limit_in Seconds (text_at words (age_in word o))
  Some (record {
    word = word;
    cache = cache;
    key = key;
    keep = text_at words o.keep;
    grace = grace;
    size = size;
    age = age;
    lists = is_some o.list;
    durable = is_some o.durable;
    anyway = is_some o.anyway;
  })

-- so they ask for nothing if one is wrong, or an option lacks its value
abbrev pub order_by : {A : Type 0} → Word → Options → List (String A) → Option Order
order_by word o words = if o.is_wrong || is_some o.waits then None else right_order word o words

-- what these words ask for
abbrev pub order_in : {A : Type 0} → List (String A) → Option Order
order_in [] = None
order_in (name ∷ words) =
    option_and_then (λ word. order_by word (options_in word words) words) (word_in (string_bytes name))

-- what an order with references says
abbrev pub order_of : Given → Order
order_of o = record {
  word = o.word;
  cache = o.cache.now;
  key = o.key.now;
  keep = option_map (λ w. w.now) o.keep;
  grace = o.grace;
  size = o.size;
  age = o.age;
  lists = o.lists;
  durable = o.durable;
  anyway = o.anyway;
}
