-- Which folders a durable commit has to sync, and what is at a path after a loss if they are.
use Rattle.std.proofs.{lemmas.{Grind.{common_steps}, List.Elements.{All-nil, All-cons, All-head, All-tail}}, Common.{rules, arith, ◌≡◌, ◌⊎◌, inl, inr, ℕ, Bool, true, cond, List, [], ◌∷◌, ◌++◌, Option, None, Some, refl, ap, ◌∙◌, append_assoc, ◌==◌, Ok, length, sym, subst, append-nil}}
use Rattle.std.specs.Prelude.{unwrap_or, All}
use Rattle.cacache_core.specs.Paths.{Names, names_of, home_of, names_below, is_bad, IsProperName, join, folders_to}
use Rattle.cacache_core.proofs.{JoinedNames.{joined_texts_name}, ProperNames.{names_are_proper}}
use Rattle.cacache_disk.{specs.{declared.node.Node.{Node, TheVariants.{Folder}}, Tree.{Tree, look, Rooted, is_folder}}, proofs.Standing.{upper_folder}}
use Rattle.cacache_value.{specs.{Kinds.{Way, path_kind, is_used, Bucket}, Placed.{Placed}, Acts.{Move}}, proofs.PathKinds.{bytes_same}}
use Rattle.cacache_loss.specs.{Fixing.{Fixed, Place, place_now}, Loss.{Loss, lead_folders, left_at, node_left, stays, begins}, Moments.{EachMove, Moment, after, lost_then, next, IsCalm}, Syncs.{SyncsFolder, SyncsFolders, IsFolderSync, FiveForContents, FourForBuckets, OwnFoldersAreEnough, SyncsText, SyncsTexts}}
use Rattle.cacache_loss.proofs.KeptPaths.{fixed_next, sync_fixes}
use Rattle.cacache_value.proofs.PathKinds as apart

-- ---- which of the places is left

cond_same : {A : Type 0} (b : Bool) (x : A) → cond b x x ≡ x
cond_same b x = grind (arith, common_steps)

-- a place that stays, or has a fixed name
abbrev pub IsFirm : Option Names → Fixed → Names → Type 0
IsFirm home fixed q = (stays home q ≡ true) ⊎ (fixed.names q ≡ None)

pub left_firm : (home : Option Names) (t : Tree) (fixed : Fixed) (loss : Loss) (q : Names) → IsFirm home fixed q → left_at home t fixed loss q ≡ place_now t fixed q
left_firm home t fixed loss q which = grind (arith, cond_same)

left_or : (P : Place → Type 0) (b : Bool) (o : Option Place) (now : Place) → P now → ((was : Place) → o ≡ Some was → P was) → P (cond b (unwrap_or o now) now)
left_or P b o now h k = grind (arith, common_steps)

-- what is left is what is there now, or what was there when its folder was fixed
pub left_was : (home : Option Names) (t : Tree) (fixed : Fixed) (loss : Loss) (q : Names) (W : Option Place → Type 0) (P : Place → Type 0)
    → ((stays home q ≡ true) ⊎ W (fixed.names q)) → P (place_now t fixed q) → ((was : Place) → W (Some was) → P was)
    → P (left_at home t fixed loss q)
left_was home t fixed loss q W P which now was = grind (arith, left_firm, left_or)

pub top_stays : (home : Option Names) → stays home [] ≡ true
top_stays home = grind (arith, common_steps)

pub not_top : (h : Option Names) → path_kind h [] ≡ Bucket → ⊥
not_top None e = cc
not_top (Some []) e = cc
not_top (Some (n ∷ rest)) e = cc

-- a move need only be calm
abbrev pub Any : Moment → Move → Type 0
Any w m = Unit {0}

pub any : (w : Moment) (moves : List Move) → EachMove Any w moves
any w [] = tt
any w (m ∷ moves) = (tt, any (next w m) moves)

-- what is left is the node of such a place, with this tail
abbrev pub IsLeft : (Place → Type 0) → List ℕ → Option Node → Type 0
IsLeft P tail here = (place : Place) × P place × (here ≡ node_left place.fixing tail place.node)

-- ---- a path that the cache uses, at which there is something through calm moves

module _ (home : Option Names) (c : Names) (used : is_used (path_kind home c) ≡ true) (some : c ≡ [] → ⊥)
    (I : Moment → Type 0) (X : Moment → Move → Type 0) (W : Option Place → Type 0)
    (placed : (w : Moment) → I w → Placed home w.tree) (rooted : (w : Moment) → I w → Rooted w.tree)
    (node : (w : Moment) → I w → (n : Node) × (look w.tree c ≡ Some n))
    (goes : (w : Moment) (m : Move) → I w → IsCalm home w m → X w m → I (next w m))
    (none : W None)
    (was : (w : Moment) (m : Move) → I w → IsCalm home w m → X w m → W (w.fixed.names c) → W ((next w m).fixed.names c)) where
  holds_after : (w : Moment) (moves : List Move) → I w → EachMove (IsCalm home) w moves → EachMove X w moves → I (after w moves)
  holds_after w [] i calm x = i
  holds_after w (m ∷ moves) i calm x = holds_after (next w m) moves (goes w m i calm.0 x.0) calm.1 x.1

  was_after : (w : Moment) (moves : List Move) → I w → EachMove (IsCalm home) w moves → EachMove X w moves → W (w.fixed.names c) → W ((after w moves).fixed.names c)
  was_after w [] i calm x h = h
  was_after w (m ∷ moves) i calm x h = was_after (next w m) moves (goes w m i calm.0 x.0) calm.1 x.1 (was w m i calm.0 x.0 h)

  -- above the path are folders
  way_of : (p rest : Names) (name : List ℕ) → p ++ name ∷ rest ≡ c → path_kind home p ≡ Way
  way_of p rest name e = apart.above home p rest name (ap (λ q. is_used (path_kind home q)) e ∙ used)

  folder_of : (w : Moment) (p rest : Names) (name : List ℕ) → p ++ name ∷ rest ≡ c → I w → look w.tree p ≡ Some Folder
  folder_of w p rest name e i = upper_folder w.tree p rest name (node w i).0 (rooted w i) (ap (look w.tree) e ∙ (node w i).1)

  firm_after : (w : Moment) (moves : List Move) (p rest : Names) (name : List ℕ) → p ++ name ∷ rest ≡ c → I w → EachMove (IsCalm home) w moves → EachMove X w moves
      → w.fixed.names p ≡ None → (after w moves).fixed.names p ≡ None
  firm_after w [] p rest name e i calm x h = h
  firm_after w (m ∷ moves) p rest name e i calm x h =
      firm_after (next w m) moves p rest name e (goes w m i calm.0 x.0) calm.1 x.1
      (fixed_next home w.tree w.fixed p m.step m.luck m.answer (placed w i) (way_of p rest name e) (folder_of w p rest name e i) calm.0.0 calm.0.1 h)

  firm_synced : (w : Moment) (moves : List Move) (d rest : Names) (n name : List ℕ) → (d ++ n ∷ []) ++ name ∷ rest ≡ c → I w → EachMove (IsCalm home) w moves → EachMove X w moves
      → SyncsFolder d moves → (after w moves).fixed.names (d ++ n ∷ []) ≡ None
  firm_synced w [] d rest n name e i calm x s = absurd s
  firm_synced w (m ∷ moves) d rest n name e i calm x (inl s) = search (rules, firm_after, sync_fixes)
  firm_synced w (m ∷ moves) d rest n name e i calm x (inr s) = firm_synced (next w m) moves d rest n name e (goes w m i calm.0 x.0) calm.1 x.1 s

  was_synced : (w : Moment) (moves : List Move) (d : Names) (n : List ℕ) → d ++ n ∷ [] ≡ c → I w → EachMove (IsCalm home) w moves → EachMove X w moves
      → SyncsFolder d moves → W ((after w moves).fixed.names c)
  was_synced w [] d n e i calm x s = absurd s
  was_synced w (m ∷ moves) d n e i calm x (inl s) = search (rules, was_after, sync_fixes)
  was_synced w (m ∷ moves) d n e i calm x (inr s) = was_synced (next w m) moves d n e (goes w m i calm.0 x.0) calm.1 x.1 s

  module _ (w : Moment) (moves : List Move) (loss : Loss) (i : I w) (calm : EachMove (IsCalm home) w moves) (x : EachMove X w moves) where
    abbrev end : Moment
    end = after w moves

    abbrev left : Names → Place
    left = left_at home end.tree end.fixed loss

    left_folder : (p rest : Names) (name : List ℕ) → p ++ name ∷ rest ≡ c → IsFirm home end.fixed p → is_folder (left p).node ≡ true
    left_folder p rest name e firm = search (rules, left_firm, folder_of, holds_after)

    firm_next : (p rest : Names) (n name : List ℕ) → p ++ n ∷ name ∷ rest ≡ c → ((stays home (p ++ n ∷ []) ≡ true) ⊎ SyncsFolder p moves) → IsFirm home end.fixed (p ++ n ∷ [])
    firm_next p rest n name e (inl s) = inl s
    firm_next p rest n name e (inr s) = inr (firm_synced w moves p rest n name (append_assoc p (n ∷ []) (name ∷ rest) ∙ e) i calm x s)

    leads : (p rest : Names) → p ++ rest ≡ c → IsFirm home end.fixed p → SyncsFolders home p rest moves → lead_folders left p rest ≡ true
    leads p [] e firm s = refl
    leads p (n ∷ []) e firm s = rw (left_folder p [] n e firm) refl
    leads p (n ∷ name ∷ rest) e firm s =
        rw (left_folder p (name ∷ rest) n e firm)
        (leads (p ++ n ∷ []) (name ∷ rest) (append_assoc p (n ∷ []) (name ∷ rest) ∙ e) (firm_next p rest n name e s.0) s.1)

    last_next : (p : Names) (n : List ℕ) → p ++ n ∷ [] ≡ c → ((stays home (p ++ n ∷ []) ≡ true) ⊎ SyncsFolder p moves) → (stays home c ≡ true) ⊎ W (end.fixed.names c)
    last_next p n e which = grind (arith, was_synced)

    last : (p rest : Names) → p ++ rest ≡ c → (rest ≡ [] → ⊥) → SyncsFolders home p rest moves → (stays home c ≡ true) ⊎ W (end.fixed.names c)
    last p [] e more s = absurd (more refl)
    last p (n ∷ []) e more s = last_next p n e s.0
    last p (n ∷ name ∷ rest) e more s = last (p ++ n ∷ []) (name ∷ rest) (append_assoc p (n ∷ []) (name ∷ rest) ∙ e) (λ e. cc) s.1

    -- after a loss there is what was there when its folder was fixed, or what is there now, with the
    -- bytes that the loss left
    pub survives : (P : Place → Type 0) → SyncsFolders home [] c moves → (I end → P (place_now end.tree end.fixed c)) → ((place : Place) → W (Some place) → P place)
        → IsLeft P (loss.tail c) (lost_then home end loss c)
    survives P s now was = (
      left c,
      left_was home end.tree end.fixed loss c W P (last [] c refl some s) (now (holds_after w moves i calm x)) was,
      ap (λ b. cond b (node_left (left c).fixing (loss.tail c) (left c).node) None) (leads [] c refl (inl (top_stays home)) s),
    )

-- ---- which folders a durable commit has to sync

begins_front : (p q : Names) → begins p (p ++ q) ≡ true
begins_front [] q = refl
begins_front (n ∷ p) q = rw (bytes_same n) (begins_front p q)

from_top : (home p q rest : Names) (moves : List Move) → p ++ q ≡ home → SyncsFolders (Some home) home rest moves → SyncsFolders (Some home) p (q ++ rest) moves
from_top home p [] rest moves e s = subst (λ above. SyncsFolders (Some home) above rest moves) (sym (sym (append-nil p) ∙ e)) s
from_top home p (n ∷ q) rest moves e s =
    let next : (p ++ n ∷ []) ++ q ≡ home = append_assoc p (n ∷ []) q ∙ e in
    (inl (ap (begins (p ++ n ∷ [])) (sym next) ∙ begins_front (p ++ n ∷ []) q), from_top home (p ++ n ∷ []) q rest moves next s)

pub own_folders_are_enough : OwnFoldersAreEnough
own_folders_are_enough home rest moves s = from_top home [] home rest moves refl s

-- ---- the texts of folders

-- a text that names something names the cache's folder
pub named_home : (cache : List ℕ) (home : Names) (empty bad : Bool) → (length cache == 0) ≡ empty → is_bad cache ≡ bad → names_of cache ≡ Ok home → home_of cache ≡ Some home
unfolding names_of home_of
named_home cache home empty bad e b is = grind (arith, common_steps)

-- one more name
named_further : (p : List ℕ) (above : Names) (n : List ℕ) → names_of p ≡ Ok above → IsProperName n → names_of (join p n) ≡ Ok (above ++ n ∷ [])
named_further p above n is proper =
    joined_texts_name p (n ∷ []) (All-cons IsProperName n [] proper (All-nil IsProperName)) (omega arith)
    ∙ ap (λ home. names_below home (n ∷ [])) (named_home p above (length p == 0) (is_bad p) refl refl is)

text_synced : (p : List ℕ) (folder : Names) (moves : List Move) → names_of p ≡ Ok folder → SyncsText p moves → SyncsFolder folder moves
text_synced p folder [] is s = absurd s
text_synced p folder (m ∷ moves) is (inl s) = inl (subst (λ step. IsFolderSync folder step m.answer) (sym s.0) (is, s.1))
text_synced p folder (m ∷ moves) is (inr s) = inr (text_synced p folder moves is s)

texts_synced : (home : Option Names) (p : List ℕ) (above ns : Names) (moves : List Move) → names_of p ≡ Ok above → All IsProperName ns
    → SyncsTexts (folders_to p ns) moves → SyncsFolders home above ns moves
texts_synced home p above [] moves is proper s = tt
texts_synced home p above (n ∷ ns) moves is proper s = (
  inr (text_synced p above moves is s.0),
  texts_synced home (join p n) (above ++ n ∷ []) ns moves (named_further p above n is (All-head IsProperName n ns proper)) (All-tail IsProperName n ns proper) s.1,
)

-- below the cache's folder
enough : (cache : List ℕ) (home ns : Names) (moves : List Move) → names_of cache ≡ Ok home → All IsProperName ns
    → SyncsTexts (folders_to cache ns) moves → SyncsFolders (Some home) [] (home ++ ns) moves
enough cache home ns moves is proper s = own_folders_are_enough home ns moves (texts_synced (Some home) cache home ns moves is proper s)

pub five_for_contents : FiveForContents
five_for_contents cache home h is hash = search (rules, enough, names_are_proper.contents)

pub four_for_buckets : FourForBuckets
four_for_buckets cache home d is digest = search (rules, enough, names_are_proper.buckets)
