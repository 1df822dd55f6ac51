-- The words after a name, and the options among them.
use Rattle.std.specs.{Prelude.{if◌then◌else◌, ◌||◌, ◌+◌, ℕ, true, false, List, [], ◌∷◌, Option, None, Some, String, codes, is_none, is_some, nat_eq, string_bytes}, List.{starts_with}}
use Rattle.cacache_program.specs.{declared.keep.{names.Word.{Word}, options.{Flag.{Flag, TheVariants.{Grace, Keep, Size, Age, List as Lists, Durable, Anyway}}, Options.{Options}}}, OptionTable.{allowed, is, takes_value}}

-- no words
abbrev pub nothing_chosen : Options
nothing_chosen = record {
  waits = None;
  first = None;
  second = None;
  third = None;
  grace = None;
  keep = None;
  size = None;
  age = None;
  list = None;
  durable = None;
  anyway = None;
  is_wrong = false;
}

-- which option the word is
abbrev pub flag_in : List ℕ → Option Flag
flag_in word =
    if is word (codes "--grace") then Some Grace
    else (if is word (codes "--keep") then Some Keep
    else (if is word (codes "--size") then Some Size
    else (if is word (codes "--age") then Some Age
    else (if is word (codes "--list") then Some Lists
    else (if is word (codes "--durable") then Some Durable
    else (if is word (codes "--anyway") then Some Anyway
    else None))))))

-- with the option's value at this place; an option that has one is wrong
abbrev pub put : Options → Flag → ℕ → Options
put c Grace place = record c { waits = None; grace = Some place; is_wrong = c.is_wrong || is_some c.grace }
put c Keep place = record c { waits = None; keep = Some place; is_wrong = c.is_wrong || is_some c.keep }
put c Size place = record c { waits = None; size = Some place; is_wrong = c.is_wrong || is_some c.size }
put c Age place = record c { waits = None; age = Some place; is_wrong = c.is_wrong || is_some c.age }
put c Lists place = record c { waits = None; list = Some place; is_wrong = c.is_wrong || is_some c.list }
put c Durable place = record c { waits = None; durable = Some place; is_wrong = c.is_wrong || is_some c.durable }
put c Anyway place = record c { waits = None; anyway = Some place; is_wrong = c.is_wrong || is_some c.anyway }

-- with an option: its value is the next word, or the option itself if it takes none; one that doesn't
-- go with the name is wrong
abbrev pub begun : Word → Options → Flag → ℕ → Options
begun name c flag place =
    if allowed name flag then (if takes_value flag then record c { waits = Some flag } else put c flag place)
    else record c { is_wrong = true }

-- with a word that is none of these options: another option is wrong, and so is a fourth word
abbrev pub placed : Options → List ℕ → ℕ → Options
placed c word place =
    if starts_with nat_eq word (codes "--") then record c { is_wrong = true }
    else (if is_none c.first then record c { first = Some place }
    else (if is_none c.second then record c { second = Some place }
    else record c { third = Some place; is_wrong = c.is_wrong || is_some c.third }))

-- with a word that may be an option
abbrev pub read : Word → Option Flag → Options → List ℕ → ℕ → Options
read name (Some flag) c word place = begun name c flag place
read name None c word place = placed c word place

-- with a word that may be the value of an option
abbrev pub valued : Word → Option Flag → Options → List ℕ → ℕ → Options
valued name (Some flag) c word place = put c flag place
valued name None c word place = read name (flag_in word) c word place

-- with one word more, which is at this place
abbrev pub taken : Word → Options → List ℕ → ℕ → Options
taken name c word place = valued name c.waits c word place

-- with all these words, the first of which is at this place
abbrev pub taken_from : {A : Type 0} → Word → ℕ → Options → List (String A) → Options
taken_from name place c [] = c
taken_from name place c (w ∷ more) =
    taken_from name (place + 1) (taken name c (string_bytes w) place) more

-- where the words after the name are that it asks for
abbrev pub options_in : {A : Type 0} → Word → List (String A) → Options
options_in name words = taken_from name 0 nothing_chosen words
