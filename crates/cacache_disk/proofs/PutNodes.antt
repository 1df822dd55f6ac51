-- Nodes that are put and cut.
use Rattle.std.proofs.Common.{◌≡◌, Bool, true, false, cond, refl, sym, ap, ◌∙◌}
use Rattle.std.specs.{Prelude.{Option, None, Some}, Bool.{nat_eq}, Ordering.{nat_cmp}, Cmp.{eq_by_cmp_equiv, Lexicographic.{pointwise, slice_cmp, lists_ties, texts_ties}}}
use Rattle.std.specs.FinMap as map
use Rattle.cacache_disk.{specs.{declared.node.Node.{Node}, Tree.{Tree, Names, look, put, cut, same_path, is_folder}}, proofs.Maps.{total, only, same_path-true}}

undone : (t : Tree) (p : Names) (node : Node) → None ≡ look t p → (q : Names) (b : Bool) → same_path q p ≡ b → cond b None (cond b (Some node) (look t q)) ≡ look t q
undone t p node free q true e = free ∙ ap (look t) (sym (same_path-true q p e))
undone t p node free q false e = refl

-- what was put at a free path and then cut
pub cut-put : (t : Tree) (p : Names) (node : Node) → None ≡ look t p → cut (put t p node) p ≡ t
cut-put t p node free = map.same_map total only _ _ (λ q. map.get-remove total (put t p node) p q ∙ ap (cond (same_path q p) None) (map.get-insert total t p node q) ∙ undone t p node free q (same_path q p) refl)

twice : (p q r : Names) (node : Node) (old : Option Node) (a b : Bool) → same_path r p ≡ a → same_path r q ≡ b → (p ≡ q → ⊥)
    → cond b None (cond a (Some node) old) ≡ cond a (Some node) (cond b None old)
twice p q r node old true true x y h = absurd (h (sym (same_path-true r p x) ∙ same_path-true r q y))
twice p q r node old true false x y h = refl
twice p q r node old false true x y h = refl
twice p q r node old false false x y h = refl

-- a file put at a path, and another path cut
pub cut-put_apart : (t : Tree) (p q : Names) (node : Node) → (p ≡ q → ⊥) → cut (put t p node) q ≡ put (cut t q) p node
cut-put_apart t p q node h = map.same_map total only _ _ (λ r.
    map.get-remove total (put t p node) q r ∙ ap (cond (same_path r q) None) (map.get-insert total t p node r)
    ∙ twice p q r node (look t r) (same_path r p) (same_path r q) refl refl h
    ∙ sym (map.get-insert total (cut t q) p node r ∙ ap (cond (same_path r p) (Some node)) (map.get-remove total t q r)))

over : (p r : Names) (node : Node) (old : Option Node) (a : Bool) → cond a (Some node) old ≡ cond a (Some node) (cond a None old)
over p r node old true = refl
over p r node old false = refl

pub put-cut_same : (t : Tree) (p q : Names) (node : Node) → p ≡ q → put t p node ≡ put (cut t q) p node
put-cut_same t p q node e = rw (sym e) (map.same_map total only _ _ (λ r.
    map.get-insert total t p node r ∙ over p r node (look t r) (same_path r p)
    ∙ sym (map.get-insert total (cut t p) p node r ∙ ap (cond (same_path r p) (Some node)) (map.get-remove total t p r))))

same_names : (p q : Names) → pointwise (pointwise nat_eq) p q ≡ same_path p q
same_names p q = lists_ties (slice_cmp nat_cmp) texts_ties p q

pub eq-true : (p q : Names) → true ≡ pointwise (pointwise nat_eq) p q → p ≡ q
eq-true p q e = same_path-true p q (sym (same_names p q) ∙ sym e)

pub eq-false : (p q : Names) → false ≡ pointwise (pointwise nat_eq) p q → p ≡ q → ⊥
eq-false p q e h =
    let is : false ≡ true = e ∙ same_names p q ∙ ap (same_path p) (sym h) ∙ (eq_by_cmp_equiv total).refl p in
    cc

-- ---- what is there after a node is put or cut

pub look-put : (t : Tree) (p : Names) (node : Node) (q : Names) → look (put t p node) q ≡ cond (same_path q p) (Some node) (look t q)
look-put t p node q = map.get-insert total t p node q

pub look-cut : (t : Tree) (p q : Names) → look (cut t p) q ≡ cond (same_path q p) None (look t q)
look-cut t p q = map.get-remove total t p q

-- folders
folder_at : (t : Tree) (p q : Names) (new : Option Node) (b : Bool) → same_path q p ≡ b → is_folder new ≡ false → is_folder (look t p) ≡ false
    → is_folder (cond b new (look t q)) ≡ is_folder (look t q)
folder_at t p q new true e fresh old = fresh ∙ sym (ap (λ r. is_folder (look t r)) (same_path-true q p e) ∙ old)
folder_at t p q new false e fresh old = refl

pub folders-put : (t : Tree) (p : Names) (node : Node) (q : Names) → is_folder (Some node) ≡ false → is_folder (look t p) ≡ false
    → is_folder (look (put t p node) q) ≡ is_folder (look t q)
folders-put t p node q fresh old = ap is_folder (look-put t p node q) ∙ folder_at t p q (Some node) (same_path q p) refl fresh old

pub folders-cut : (t : Tree) (p q : Names) → is_folder (look t p) ≡ false → is_folder (look (cut t p) q) ≡ is_folder (look t q)
folders-cut t p q old = ap is_folder (look-cut t p q) ∙ folder_at t p q None (same_path q p) refl refl old
