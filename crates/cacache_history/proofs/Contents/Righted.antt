-- Each content that is bytes has the digest of its address.
use Rattle.std.proofs.{lemmas.{Grind.{common_steps}, List.{append_cancel_left}, Option.{same_Some}}, Common.{◌≡◌, ℕ, Bool, true, cond, List, [], ◌++◌, Option, None, Some, Ok, refl, sym, ap, subst, ◌∙◌, append-nil, arith}}
use Rattle.cacache_core.specs.{declared.integrity.{algorithm.Algorithm.{Algorithm}, digest.Hash.{Hash}}, Integrity.{digest, IsHash, hash_of, integrity_under}, Paths.{Names, names_of, home_of, names_below, joined, content_names}}
use Rattle.cacache_core.proofs.{JoinedNames.{joined_texts_name}, PathTexts.{paths_differ}, ProperNames.{names_are_proper}}
use Rattle.cacache_store.specs.{declared.store.plain.PlainTemp.{PlainTemp}, Plain.{PlainStep}}
use Rattle.cacache_store.specs.declared.store.step.Step.TheVariants as steps
use Rattle.cacache_disk.{specs.{declared.luck.Luck.{Luck}, Tree.{Tree}, Apply.{apply}}, proofs.Maps.{same_path-true}}
use Rattle.cacache_calls.specs.{declared.command.Command.{Command}, Steps.{content_path}}
use Rattle.cacache_calls.specs.declared.command.Command.TheVariants as commands
use Rattle.cacache_value.specs.{Kinds.{is_path_of}, Value.{Blob, InFile, AtLink, Value, wide_value}, Acts.{Act, PutBytes, act_of, change}, Placed.{Placed, Proper, IsOpening}}
use Rattle.cacache_value.proofs.Traces.{steps_act}
use Rattle.cacache_history.specs.{Setup.{Setup, call_site, home}, Values.{HasDigest, AreRight}}
use Rattle.cacache_history.proofs.{Contents.{Carrying.{Own, own_bytes, own_link, own_of, Makes}, Digests.{digest_hash}}, StepActs.{MayAct, acts_so}}

-- ---- acts

-- the bytes, put at these names, have the digest of each address there
abbrev pub RightAt : Option Names → List ℕ → Names → Type 0
RightAt folder bytes names = (h : Hash) → IsHash h → is_path_of folder (content_names h) names ≡ true → HasDigest h bytes

-- an act that puts only such contents
abbrev PutsRight : Option Names → Act → Type 0
PutsRight folder (PutBytes names bytes) = RightAt folder bytes names
PutsRight folder act = Unit {0}

put_right : (h : Hash) (bytes new : List ℕ) (b : Bool) (old : Option Blob) → (b ≡ true → HasDigest h new) → (old ≡ Some (InFile bytes) → HasDigest h bytes)
    → cond b (Some (InFile new)) old ≡ Some (InFile bytes) → HasDigest h bytes
put_right h bytes new b old right h0 e = grind (arith, common_steps)

link_right : (h : Hash) (bytes target : List ℕ) (b : Bool) (old : Option Blob) → (old ≡ Some (InFile bytes) → HasDigest h bytes)
    → cond b (Some (AtLink target)) old ≡ Some (InFile bytes) → HasDigest h bytes
link_right h bytes target b old h0 e = grind (arith, common_steps)

drop_right : (h : Hash) (bytes : List ℕ) (b : Bool) (old : Option Blob) → (old ≡ Some (InFile bytes) → HasDigest h bytes)
    → cond b None old ≡ Some (InFile bytes) → HasDigest h bytes
drop_right h bytes b old h0 e = grind (arith, common_steps)

change_right : (folder : Option Names) (v : Value) (act : Act) → PutsRight folder act → AreRight v.contents → AreRight (change folder act v).contents
change_right folder v act p r h is bytes = grind (arith, put_right, link_right, drop_right)

-- ---- what a command puts

-- what the command makes a content of is right at the path where it goes
abbrev OwnRight : Option Names → Own → Type 0
OwnRight folder (own_bytes bytes place) = (names : Names) → names_of place ≡ Ok names → RightAt folder bytes names
OwnRight folder (own_link target) = Unit {0}

-- the names of a content's path are those of its address alone
pub one_address : (cache : List ℕ) (folder : Option Names) (g h : Hash) (names : Names) → IsHash g → IsHash h → names_below folder (content_names g) ≡ Ok names
    → is_path_of folder (content_names h) names ≡ true → h ≡ g
one_address cache None g h names p q e is = absurd cc
one_address cache (Some folder) g h names p q e is =
    let there : folder ++ content_names g ≡ names = cc in
    let same = append_cancel_left folder (content_names h) (content_names g) (same_path-true (folder ++ content_names h) names is ∙ sym there) in
    (paths_differ.contents cache h g q p).0 (ap (joined cache) same)

of_digest : (a : Algorithm) (bytes : List ℕ) (h : Hash) → h ≡ hash_of a (digest a bytes) → HasDigest h bytes
of_digest a bytes h e = rw e refl

pub put_at : (cache : List ℕ) (a : Algorithm) (bytes : List ℕ) (names : Names) → names_of (content_path cache (integrity_under a bytes)) ≡ Ok names → RightAt (home_of cache) bytes names
unfolding content_path
put_at cache a bytes names e h is here =
    let g = hash_of a (digest a bytes) in
    let below = sym (joined_texts_name cache (content_names g) (names_are_proper.contents g (digest_hash a bytes)) (omega arith)) ∙ e in
    of_digest a bytes h (one_address cache (home_of cache) g h names (digest_hash a bytes) is below here)

nowhere : (folder : Option Names) → OwnRight folder (own_bytes [] [])
unfolding names_of
nowhere folder names e h is here = absurd cc

own_right : (s : Setup) (n : ℕ) (command : Command) → OwnRight (home s) (own_of (call_site s n) command)
own_right s n (commands.Put p) = put_at s.cache p.options.algorithm p.data
own_right s n (commands.Link l) = tt
own_right s n other = nowhere (home s)

-- ---- the acts of steps

put_right_at : (folder : Option Names) (own : Own) (file : PlainTemp) (path : List ℕ) (names : Names) (put : List ℕ) → OwnRight folder own → Makes own (steps.Persist file path)
    → names_of path ≡ Ok names → file.bytes ≡ Some put → RightAt folder put names
put_right_at folder (own_bytes bytes place) file path names put right makes is has =
    let all : makes.0.0 ≡ bytes = sym (append-nil makes.0.0) ∙ makes.0.2 in
    subst (λ b. RightAt folder b names) (sym all ∙ same_Some makes.0.0 put (sym makes.0.1 ∙ has)) (right names (ap names_of (sym makes.1) ∙ is))
put_right_at folder (own_link target) file path names put right makes is has = absurd makes.1

act_right : (folder : Option Names) (own : Own) (act : Act) (step : PlainStep) → MayAct act step → OwnRight folder own → Makes own step → PutsRight folder act
act_right folder own (PutBytes names bytes) (steps.Persist f p) is right makes = put_right_at folder own f p names bytes right makes is.0 is.1
act_right folder own (PutBytes names bytes) step is right makes = absurd is
act_right folder own act step is right makes = tt

-- ---- trees

abbrev pub TreeRight : Option Names → Tree → Type 0
TreeRight folder t = AreRight (wide_value folder t).contents

pub stays_right : (s : Setup) (n : ℕ) (command : Command) (t : Tree) (step : PlainStep) (luck : Luck) → Placed (home s) t → Proper (home s) step → Makes (own_of (call_site s n) command) step
    → TreeRight (home s) t → TreeRight (home s) (apply t step luck).1
stays_right s n command t step luck placed proper makes right =
    subst (λ v. AreRight v.contents) (sym (steps_act (home s) t step luck placed proper))
    (change_right (home s) (wide_value (home s) t) (act_of step luck (apply t step luck).0)
    (act_right (home s) (own_of (call_site s n) command) (act_of step luck (apply t step luck).0) step (acts_so step luck (apply t step luck).0) (own_right s n command) makes) right)

pub opening_right : (folder : Option Names) (t : Tree) → IsOpening folder t → TreeRight folder t
opening_right folder t o h is bytes e = let none : None ≡ Some (InFile bytes) = ap (λ v. v.contents h) (sym o.nothing) ∙ e in absurd cc
