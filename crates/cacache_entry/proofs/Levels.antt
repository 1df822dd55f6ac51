-- How many brackets are open at each place of a text.
use Rattle.std.proofs.{Common.{◌≡◌, ℕ, suc, ◌-◌, Bool, true, false, ◌&&◌, ◌==◌, cond, List, [], ◌∷◌, ◌++◌, Option, Some, None, length, take, drop, refl, sym, ap, ◌∙◌, arith, append_assoc, append-nil}, lemmas.Bool.{and_parts, and_from, true≢false}}
use Rattle.std.specs.{List.{starts_with}, Prelude.{nat_eq}}
use Rattle.json.specs.{Token.{Token}, Word.{word, literal, number_before, after_number, head, ends_word}, Lex.{Lexeme, token, comma, colon, Class, quote, backslash, operator, space, other, class, operator_lexeme, string_token, Mode, between, in_word, in_string, in_escape, lex_byte, lex, Place, fresh, after_value, after_comma, after_key, begins_colon, may_begin, may_close, if_allowed, place_token, punctuate, tokens}, Text.{content, plain}, Tree.{json_tokens, items_tokens, members_tokens}}
use Rattle.json.specs.Ascii as ascii
use Rattle.json.specs.Json as json

-- ---- tokens and lexemes

-- how many brackets are open after a token, if k are open before it
abbrev pub after_token : ℕ → Token → ℕ
after_token k Token.begin_object = suc k
after_token k Token.end_object = k - 1
after_token k Token.begin_array = suc k
after_token k Token.end_array = k - 1
after_token k (Token.key s) = k
after_token k (Token.string s) = k
after_token k (Token.number s) = k
after_token k (Token.boolean b) = k
after_token k Token.null = k
after_token k Token.bad = k

-- and after a list of tokens
abbrev pub after_tokens : ℕ → List Token → ℕ
after_tokens k [] = k
after_tokens k (t ∷ ts) = after_tokens (after_token k t) ts

-- and after a lexeme
abbrev pub after_lexeme : ℕ → Lexeme → ℕ
after_lexeme k (token t) = after_token k t
after_lexeme k comma = k
after_lexeme k colon = k

-- and after a list of lexemes
abbrev pub after_lexemes : ℕ → List Lexeme → ℕ
after_lexemes k [] = k
after_lexemes k (l ∷ ls) = after_lexemes (after_lexeme k l) ls

-- the token isn't bad
abbrev pub is_fine : Token → Bool
is_fine Token.begin_object = true
is_fine Token.end_object = true
is_fine Token.begin_array = true
is_fine Token.end_array = true
is_fine (Token.key s) = true
is_fine (Token.string s) = true
is_fine (Token.number s) = true
is_fine (Token.boolean b) = true
is_fine Token.null = true
is_fine Token.bad = false

-- no token is bad
abbrev pub are_fine : List Token → Bool
are_fine [] = true
are_fine (t ∷ ts) = is_fine t && are_fine ts

-- ---- bytes

-- the lexer's mode after a byte of the class
abbrev pub next : Mode → Class → Mode
next between quote = in_string
next between backslash = in_word
next between operator = between
next between space = between
next between other = in_word
next in_word quote = in_word
next in_word backslash = in_word
next in_word operator = between
next in_word space = between
next in_word other = in_word
next in_string quote = between
next in_string backslash = in_escape
next in_string operator = in_string
next in_string space = in_string
next in_string other = in_string
next in_escape c = in_string

-- how many brackets are open after a byte x of the class c, if k are open before it
abbrev pub after_byte : ℕ → Mode → Class → ℕ → ℕ
after_byte k between quote x = k
after_byte k between backslash x = k
after_byte k between operator x = after_lexeme k (operator_lexeme x)
after_byte k between space x = k
after_byte k between other x = k
after_byte k in_word quote x = k
after_byte k in_word backslash x = k
after_byte k in_word operator x = after_lexeme k (operator_lexeme x)
after_byte k in_word space x = k
after_byte k in_word other x = k
after_byte k in_string c x = k
after_byte k in_escape c x = k

-- and after a list of bytes
abbrev pub level : ℕ → Mode → List ℕ → ℕ
level k m [] = k
level k m (x ∷ xs) = level (after_byte k m (class x) x) (next m (class x)) xs

-- the lexer's mode after a list of bytes
abbrev pub mode : Mode → List ℕ → Mode
mode m [] = m
mode m (x ∷ xs) = mode (next m (class x)) xs

-- ---- the lexer opens and closes as the bytes do

flat_if : (b : Bool) (k : ℕ) (t u : Token) → after_token k t ≡ k → after_token k u ≡ k → after_token k (cond b t u) ≡ k
flat_if true k t u p q = p
flat_if false k t u p q = q

flat_number : (k : ℕ) (t : List ℕ) (o : Option (List ℕ)) → after_token k (number_before t o) ≡ k
flat_number k t None = refl
flat_number k t (Some rest) = flat_if (ends_word rest) k (Token.number (take (length t - length rest) t)) Token.bad refl refl

-- a word's token opens and closes nothing
flat_word : (k : ℕ) (t : List ℕ) → after_token k (word t) ≡ k
unfolding word
flat_word k t =
    let n = number_before t (after_number t) in
    let c = literal ascii.null_text Token.null t in
    let b = literal ascii.false_text (Token.boolean false) t in
    let a = literal ascii.true_text (Token.boolean true) t in
    let lit = λ (name : List ℕ) (u : Token) (e : after_token k u ≡ k). flat_if (starts_with nat_eq t name && ends_word (drop (length name) t)) k u Token.bad e refl in
    flat_if (head t == 116) k a (cond (head t == 102) b (cond (head t == 110) c n)) (lit ascii.true_text (Token.boolean true) refl)
    (flat_if (head t == 102) k b (cond (head t == 110) c n) (lit ascii.false_text (Token.boolean false) refl)
    (flat_if (head t == 110) k c n (lit ascii.null_text Token.null refl) (flat_number k t (after_number t))))

flat_string : (k : ℕ) (o : Option (List ℕ)) → after_token k (string_token o) ≡ k
flat_string k None = refl
flat_string k (Some s) = refl

lexed : (m : Mode) (c : Class) (k x : ℕ) (xs : List ℕ) (more : Mode → List Lexeme) → after_lexemes k (lex_byte m c x xs more) ≡ after_lexemes (after_byte k m c x) (more (next m c))
lexed between quote k x xs more = ap (λ i. after_lexemes i (more in_string)) (flat_string k (content plain xs))
lexed between backslash k x xs more = refl
lexed between operator k x xs more = refl
lexed between space k x xs more = refl
lexed between other k x xs more = ap (λ i. after_lexemes i (more in_word)) (flat_word k (x ∷ xs))
lexed in_word quote k x xs more = refl
lexed in_word backslash k x xs more = refl
lexed in_word operator k x xs more = refl
lexed in_word space k x xs more = refl
lexed in_word other k x xs more = refl
lexed in_string quote k x xs more = refl
lexed in_string backslash k x xs more = refl
lexed in_string operator k x xs more = refl
lexed in_string space k x xs more = refl
lexed in_string other k x xs more = refl
lexed in_escape c k x xs more = refl

-- lexing opens and closes as the bytes do
pub level-lex : (k : ℕ) (m : Mode) (xs : List ℕ) → after_lexemes k (lex m xs) ≡ level k m xs
unfolding lex
level-lex k m [] = refl
level-lex k m (x ∷ xs) = lexed m (class x) k x xs (λ n. lex n xs) ∙ level-lex (after_byte k m (class x) x) (next m (class x)) xs

-- ---- so do the tokens, if none is bad

abbrev Agrees : (Place → List Token) → (ℕ → ℕ) → Type 0
Agrees more total = (q : Place) (k : ℕ) → are_fine (more q) ≡ true → after_tokens k (more q) ≡ total k

allowed : (b : Bool) (t : Token) (more : Place → List Token) (q : Place) (total : ℕ → ℕ) → Agrees more total → (k : ℕ) → are_fine (if_allowed b t more q) ≡ true → after_tokens k (if_allowed b t more q) ≡ total (after_token k t)
allowed true t more q total same k h = same q (after_token k t) (and_parts (is_fine t) (are_fine (more q)) h).1
allowed false t more q total same k h = absurd (true≢false (sym h))

placed : (p : Place) (t : Token) (b : Bool) (more : Place → List Token) (total : ℕ → ℕ) → Agrees more total → (k : ℕ) → are_fine (place_token p t b more) ≡ true → after_tokens k (place_token p t b more) ≡ total (after_token k t)
placed p Token.begin_object b more total same k h = allowed (may_begin p) Token.begin_object more fresh total same k h
placed p Token.end_object b more total same k h = allowed (may_close p) Token.end_object more after_value total same k h
placed p Token.begin_array b more total same k h = allowed (may_begin p) Token.begin_array more fresh total same k h
placed p Token.end_array b more total same k h = allowed (may_close p) Token.end_array more after_value total same k h
placed p (Token.string s) true more total same k h = allowed (may_begin p) (Token.key s) more after_key total same k h
placed p (Token.string s) false more total same k h = allowed (may_begin p) (Token.string s) more after_value total same k h
placed p (Token.number s) b more total same k h = allowed (may_begin p) (Token.number s) more after_value total same k h
placed p (Token.boolean c) b more total same k h = allowed (may_begin p) (Token.boolean c) more after_value total same k h
placed p Token.null b more total same k h = allowed (may_begin p) Token.null more after_value total same k h
placed p t b more total same k h = absurd (true≢false (sym h))

-- and so does punctuating
pub level-punctuate : (p : Place) (ls : List Lexeme) (k : ℕ) → are_fine (punctuate p ls) ≡ true → after_tokens k (punctuate p ls) ≡ after_lexemes k ls
unfolding punctuate
level-punctuate fresh [] k h = refl
level-punctuate after_value [] k h = refl
level-punctuate after_comma [] k h = absurd (true≢false (sym h))
level-punctuate after_key [] k h = absurd (true≢false (sym h))
level-punctuate fresh (token t ∷ ls) k h = placed fresh t (begins_colon ls) (λ q. punctuate q ls) (λ i. after_lexemes i ls) (λ q i. level-punctuate q ls i) k h
level-punctuate after_value (token t ∷ ls) k h = placed after_value t (begins_colon ls) (λ q. punctuate q ls) (λ i. after_lexemes i ls) (λ q i. level-punctuate q ls i) k h
level-punctuate after_comma (token t ∷ ls) k h = placed after_comma t (begins_colon ls) (λ q. punctuate q ls) (λ i. after_lexemes i ls) (λ q i. level-punctuate q ls i) k h
level-punctuate after_key (token t ∷ ls) k h = placed after_key t (begins_colon ls) (λ q. punctuate q ls) (λ i. after_lexemes i ls) (λ q i. level-punctuate q ls i) k h
level-punctuate fresh (comma ∷ ls) k h = absurd (true≢false (sym h))
level-punctuate after_value (comma ∷ ls) k h = level-punctuate after_comma ls k h
level-punctuate after_comma (comma ∷ ls) k h = absurd (true≢false (sym h))
level-punctuate after_key (comma ∷ ls) k h = absurd (true≢false (sym h))
level-punctuate fresh (colon ∷ ls) k h = absurd (true≢false (sym h))
level-punctuate after_value (colon ∷ ls) k h = absurd (true≢false (sym h))
level-punctuate after_comma (colon ∷ ls) k h = absurd (true≢false (sym h))
level-punctuate after_key (colon ∷ ls) k h = level-punctuate fresh ls k h

-- ---- the tokens of a value close what they open

are_fine-append : (ts us : List Token) → are_fine ts ≡ true → are_fine us ≡ true → are_fine (ts ++ us) ≡ true
are_fine-append [] us h g = g
are_fine-append (t ∷ ts) us h g = let p = and_parts (is_fine t) (are_fine ts) h in and_from _ _ p.0 (are_fine-append ts us p.1 g)

mutual
  pub are_fine-json_tokens : (j : json.Json) → are_fine (json_tokens j) ≡ true
  are_fine-json_tokens (json.array js) = are_fine-items_tokens js
  are_fine-json_tokens (json.object ms) = are_fine-members_tokens ms
  are_fine-json_tokens j = refl

  are_fine-items_tokens : (js : json.Items) → are_fine (items_tokens js) ≡ true
  are_fine-items_tokens json.no_items = refl
  are_fine-items_tokens (json.item j js) = are_fine-append (json_tokens j) _ (are_fine-json_tokens j) (are_fine-items_tokens js)

  are_fine-members_tokens : (ms : json.Members) → are_fine (members_tokens ms) ≡ true
  are_fine-members_tokens json.no_members = refl
  are_fine-members_tokens (json.member k j ms) = are_fine-append (json_tokens j) _ (are_fine-json_tokens j) (are_fine-members_tokens ms)

closed : (k : ℕ) (rest : List Token) → after_tokens (suc k - 1) rest ≡ after_tokens k rest
closed k rest = let e : suc k - 1 ≡ k = omega arith in ap (λ i. after_tokens i rest) e

mutual
  -- after a value's tokens, the same brackets are open as before
  balanced : (j : json.Json) (k : ℕ) (rest : List Token) → after_tokens k (json_tokens j ++ rest) ≡ after_tokens k rest
  balanced (json.array js) k rest = items_close js k rest
  balanced (json.object ms) k rest = members_close ms k rest
  balanced j k rest = refl

  items_close : (js : json.Items) (k : ℕ) (rest : List Token) → after_tokens (suc k) (items_tokens js ++ rest) ≡ after_tokens k rest
  items_close json.no_items k rest = closed k rest
  items_close (json.item j js) k rest = ap (after_tokens (suc k)) (append_assoc (json_tokens j) (items_tokens js) rest) ∙ balanced j (suc k) (items_tokens js ++ rest) ∙ items_close js k rest

  members_close : (ms : json.Members) (k : ℕ) (rest : List Token) → after_tokens (suc k) (members_tokens ms ++ rest) ≡ after_tokens k rest
  members_close json.no_members k rest = closed k rest
  members_close (json.member n j ms) k rest = ap (after_tokens (suc k)) (append_assoc (json_tokens j) (members_tokens ms) rest) ∙ balanced j (suc k) (members_tokens ms ++ rest) ∙ members_close ms k rest

-- a text made of the tokens of a value closes what it opens
pub level-value : (text : List ℕ) (j : json.Json) → tokens text ≡ json_tokens j → level 0 between text ≡ 0
level-value text j e =
    sym (level-lex 0 between text)
    ∙ sym (level-punctuate fresh (lex between text) 0 (ap are_fine e ∙ are_fine-json_tokens j)) ∙ ap (after_tokens 0) (e ∙ sym (append-nil (json_tokens j))) ∙ balanced j 0 []
