-- What is fixed on a system and on a disk that mirrors it is alike, and so is what a loss of power leaves of them.
use Rattle.std.proofs.Common.{◌≡◌, ◌&&◌, not, ℕ, Bool, true, false, cond, if◌then◌else◌, List, [], ◌∷◌, ◌++◌, refl, sym, ap, subst, ◌∙◌}
use Rattle.std.specs.Prelude.{Option, None, Some, unwrap_or}
use Rattle.cacache_core.specs.Paths.{Names}
use Rattle.cacache_disk.specs.{declared.node.Node.{Node, TheVariants.{Folder}}, Tree.{is_folder, Tree, look}}
use Rattle.cacache_loss.specs.{declared.fixing.{Fixing.{Fixing}, Place.{Place}}, Fixing.{Fixed, place_now}, Loss.{Loss, stays, left_at, lead_folders, node_left, lost_at}}
use Rattle.cacache_system_model.{specs.{Mirrors.{hollow, Mirrors}, Fixing.{LeavesSame}}, proofs.Mirroring.{shapes}}

-- ---- nodes

shape_left : (o : Bool) (a b : Option Node) → LeavesSame o a b → hollow b ≡ hollow a
shape_left true a b same = same
shape_left false a b same = ap hollow same

alike_at : (o temp : Bool) (a b : Option Node) → hollow b ≡ hollow a → (temp ≡ true → o ≡ true) → b ≡ (if temp then hollow a else a) → LeavesSame o a b
alike_at true temp a b shape own same = shape
alike_at false true a b shape own same = absurd (let wrong : false ≡ true = own refl in cc)
alike_at false false a b shape own same = same

-- what is there on both, if it is the bytes of a temporary file's own path that may differ
pub look_alike : (own temps : Names → Bool) (t d : Tree) → Mirrors temps t d → ((q : Names) → temps q ≡ true → own q ≡ true) → (q : Names) → LeavesSame (own q) (look t q) (look d q)
look_alike own temps t d m keeps q = alike_at (own q) (temps q) (look t q) (look d q) (shapes temps t d m q) (keeps q) (m.same q)

left_hollow : (f : Fixing) (tail : List ℕ) (o : Option Node) → hollow (node_left f tail o) ≡ hollow o
left_hollow f tail (Some Folder) = refl
left_hollow f tail o = refl

node_left_alike : (o : Bool) (f g : Fixing) (tail : List ℕ) (a b : Option Node) → g ≡ f → LeavesSame o a b → LeavesSame o (node_left f tail a) (node_left g tail b)
node_left_alike true f g tail a b fixing same = left_hollow g tail b ∙ same ∙ sym (left_hollow f tail a)
node_left_alike false f g tail a b fixing same = ap (λ (h : Fixing). node_left h tail b) fixing ∙ ap (node_left f tail) same

-- ---- places

-- as far fixed, and the same node but for the bytes of a temporary file
pub record AlikePlace (o : Bool) (a b : Place) : Type 0 where
  pub fixing : b.fixing ≡ a.fixing
  pub node : LeavesSame o a.node b.node

abbrev pub AlikeWas : Bool → Option Place → Option Place → Type 0
AlikeWas o None None = Unit {0}
AlikeWas o (Some a) (Some b) = AlikePlace o a b
AlikeWas o (Some a) None = ⊥
AlikeWas o None (Some b) = ⊥

-- what is fixed on the system and on the disk
pub record AlikeFixed (own : Names → Bool) (f g : Fixed) : Type 0 where
  pub files : (q : Names) → g.files q ≡ f.files q
  pub names : (q : Names) → AlikeWas (own q) (f.names q) (g.names q)

-- ---- losses

was_alike : (c o : Bool) (a b : Option Place) (p r : Place) → AlikeWas o a b → AlikePlace o p r → AlikePlace o (cond c (unwrap_or a p) p) (cond c (unwrap_or b r) r)
was_alike true o None None p r was now = now
was_alike true o (Some a) (Some b) p r was now = was
was_alike true o (Some a) None p r was now = absurd was
was_alike true o None (Some b) p r was now = absurd was
was_alike false o a b p r was now = now

folder_shape : (o : Option Node) → is_folder (hollow o) ≡ is_folder o
folder_shape (Some Folder) = refl
folder_shape o = refl

pub folder_alike : (o : Bool) (a b : Option Node) → LeavesSame o a b → is_folder b ≡ is_folder a
folder_alike o a b same = sym (folder_shape b) ∙ ap is_folder (shape_left o a b same) ∙ folder_shape a

none_alike : (o : Bool) → LeavesSame o None None
none_alike true = refl
none_alike false = refl

lead_so : (o c : Bool) (a b : Option Node) → LeavesSame o a b → LeavesSame o (cond c a None) (cond c b None)
lead_so o true a b same = same
lead_so o false a b same = none_alike o

module _ (own temps : Names → Bool) (t d : Tree) (f g : Fixed) (m : Mirrors temps t d) (keeps : (q : Names) → temps q ≡ true → own q ≡ true) (alike : AlikeFixed own f g) where
  pub now_alike : (q : Names) → AlikePlace (own q) (place_now t f q) (place_now d g q)
  now_alike q = record { fixing = alike.files q; node = look_alike own temps t d m keeps q }

  left_alike : (home : Option Names) (loss : Loss) (q : Names) → AlikePlace (own q) (left_at home t f loss q) (left_at home d g loss q)
  left_alike home loss q = was_alike (loss.undone q && not (stays home q)) (own q) (f.names q) (g.names q) (place_now t f q) (place_now d g q) (alike.names q) (now_alike q)

  leads_alike : (home : Option Names) (loss : Loss) (above path : Names) → lead_folders (left_at home d g loss) above path ≡ lead_folders (left_at home t f loss) above path
  leads_alike home loss above [] = refl
  leads_alike home loss above (name ∷ rest) =
      ap (λ (b : Bool). b && lead_folders (left_at home d g loss) (above ++ name ∷ []) rest)
      (folder_alike (own above) (left_at home t f loss above).node (left_at home d g loss above).node (left_alike home loss above).node)
      ∙ ap (λ (b : Bool). is_folder (left_at home t f loss above).node && b) (leads_alike home loss (above ++ name ∷ []) rest)

  -- a loss leaves the same of both
  pub lost_alike : (home : Option Names) (loss : Loss) (q : Names) → LeavesSame (own q) (lost_at home t f loss q) (lost_at home d g loss q)
  lost_alike home loss q =
      let l = left_at home t f loss q in
      let r = left_at home d g loss q in
      let node = node_left_alike (own q) l.fixing r.fixing (loss.tail q) l.node r.node (left_alike home loss q).fixing (left_alike home loss q).node in
      subst (λ (b : Bool). LeavesSame (own q) (lost_at home t f loss q) (cond b (node_left r.fixing (loss.tail q) r.node) None)) (sym (leads_alike home loss [] q))
      (lead_so (own q) (lead_folders (left_at home t f loss) [] q) (node_left l.fixing (loss.tail q) l.node) (node_left r.fixing (loss.tail q) r.node) node)
