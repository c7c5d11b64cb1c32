-- Nodes of one normal form: their children find alike, in turn, and so have equations.
use Rattle.std.proofs.Common.{◌≡◌, ◌<◌, ℕ, List, [], ◌∷◌, ◌++◌, sym, ◌∙◌, ap, refl, subst, inl, inr, arith}
use Rattle.std.specs.Prelude.{All}
use Rattle.std.proofs.lemmas.List.Elements.{All-nil, All-cons, All-append}
use Rattle.std.proofs.Math.Nat.{suc_inj}
use Rattle.slotted_lists.proofs.Maps.{with_values-itself}
use Rattle.slotted_theory.specs.Nameless.{DArgs, DTerm, stop, place, sub, scope}
use Rattle.slotted_nodes.specs.Form.{Form}
use Rattle.slotted_languages.specs.NodeTerm.{nameless_node}
use Rattle.slotted_model.specs.Applied.{Applied, renamed_id, applied_of, EachChild}
use Rattle.slotted_model.specs.Classes.{IsFull}
use Rattle.slotted_model.specs.Find.{Entry, find}
use Rattle.slotted_model.specs.Normal.{normal, normal_args}
use Rattle.slotted_model.specs.ProofList.{node_of}
use Rattle.slotted_model.proofs.Represented.Children.{EachChild-map}
use Rattle.slotted_model.proofs.Finds.Congruence.{child-applied}
use Rattle.slotted_model.proofs.Represented.Folds.{as_term-same}
use Rattle.slotted_model.proofs.Represented.Full.{full-children, full-renamed}
use Rattle.slotted_model.proofs.Finds.NormalIds.{found-renamed}
use Rattle.slotted_model.proofs.Data.Parts.{kind, first_name, first_child, first_scope, after_first}
use Rattle.slotted_proofs.specs.declared.equation.Equation.{Equation as Sides}
use Rattle.slotted_proofs.specs.AlikeNodes.{AreAlikeArgs}
use Rattle.slotted_proofs.specs.Equations.{to_applied}
use Rattle.slotted_proofs.specs.Steps.{HasInjectiveSides, Matches}
use Rattle.slotted_classes.specs.Kept.{Kept, nodes_of, entries_of}
use Rattle.slotted_classes.specs.Stored.{Stored}
use Rattle.slotted_rebuilding.specs.Congruence.{IsOfAlike, AreTwins, AreChildrenOf}
use Rattle.slotted_alike.specs.Frames.{AreAlikeForms, AreNeverAlike}
use Rattle.slotted_rebuilding.proofs.Naming.{alike_nodes}
use Rattle.slotted_alike.proofs.WideNodes.{large_child}
use Rattle.slotted_rebuilding.proofs.WideNodes.{wide_at}

-- two ids match themselves

abbrev sides_of : Applied → Applied → Sides
sides_of a b = record {
  l = record { id = record { 0 = a.0 }; m = a.1 };
  r = record { id = record { 0 = b.0 }; m = b.1 };
}

matches_itself : (a b : Applied) → Matches a b (to_applied (sides_of a b).l) (to_applied (sides_of a b).r)
matches_itself a b = record { left = refl; right = refl; names = record { name = λ x. x; injective = λ x y e. e; left = with_values-itself a.1; right = with_values-itself b.1 } }

module _ (k : Kept) where
  abbrev ns : List DTerm
  ns = nodes_of k

  abbrev es : List Entry
  es = entries_of k

  -- an equation that two full ids match which find alike is of such ids
  matched-alike : (a b : Applied) (c : Sides) → IsFull ns a → IsFull ns b → find es a ≡ find es b → Matches a b (to_applied c.l) (to_applied c.r) → IsOfAlike k c
  matched-alike a b c fa fb same m =
      let f : ℕ → ℕ = m.names.name in
      let left : renamed_id f a ≡ to_applied c.l = λ i. (m.left i, sym m.names.left i) in
      let right : renamed_id f b ≡ to_applied c.r = λ i. (m.right i, sym m.names.right i) in
      record {
        left = subst (IsFull ns) left (full-renamed ns a fa f (λ x y p q. m.names.injective x y));
        right = subst (IsFull ns) right (full-renamed ns b fb f (λ x y p q. m.names.injective x y));
        alike = ap (find es) (sym left) ∙ (found-renamed es f a ∙ (ap (renamed_id f) same ∙ (sym (found-renamed es f b) ∙ ap (find es) right)));
      }

  -- the first children of arguments with one normal form find alike
  first-alike : (o q : ℕ) (p r : List (List ℕ)) (x y d e : DArgs) → normal_args es (sub o p x d) ≡ normal_args es (sub q r y e) → find es (applied_of p x) ≡ find es (applied_of r y)
  first-alike o q p r x y d e h = as_term-same (find es (applied_of p x)) (find es (applied_of r y)) (ap first_child h)

  -- so it is of the children of arguments that are alike, by their equations
  pub children-alike : (d e : DArgs) (cs : List Sides) → EachChild (IsFull ns) d → EachChild (IsFull ns) e → normal_args es d ≡ normal_args es e → AreAlikeArgs d e cs → All (IsOfAlike k) cs
  children-alike stop stop [] f g h alike = All-nil (IsOfAlike k)
  children-alike (place x d) (place y e) cs f g h alike = children-alike d e cs f g (ap after_first h) alike.1
  children-alike (sub o p x d) (sub q r y e) (c ∷ cs) f g h alike =
      let a : IsFull ns (applied_of p x) = subst (IsFull ns) (sym (child-applied (IsFull ns) o p x f.0)) f.0.2 in
      let b : IsFull ns (applied_of r y) = subst (IsFull ns) (sym (child-applied (IsFull ns) q r y g.0)) g.0.2 in
      All-cons (IsOfAlike k) c cs (matched-alike (applied_of p x) (applied_of r y) c a b (first-alike o q p r x y d e h) alike.0)
      (children-alike d e cs f.1 g.1 (ap after_first h) alike.1)
  children-alike (scope i d) (scope j e) cs f g h alike =
      subst (All (IsOfAlike k)) (sym alike.2) (All-append (IsOfAlike k) alike.0 alike.1
      (children-alike i j alike.0 f.0 g.0 (ap first_scope h) alike.3) (children-alike d e alike.1 f.1 g.1 (ap after_first h) alike.4))
  children-alike d e cs f g h alike = absurd alike

  -- there are equations by which they are alike
  made : (d e : DArgs) → EachChild (IsFull ns) d → EachChild (IsFull ns) e → normal_args es d ≡ normal_args es e → (cs : List Sides) × All HasInjectiveSides cs × AreAlikeArgs d e cs
  made stop stop f g h = ([], All-nil HasInjectiveSides, tt)
  made (place x d) (place y e) f g h = let r = made d e f g (ap after_first h) in (r.0, r.1, (ap first_name h, r.2))
  made (sub o p x d) (sub q r y e) f g h =
      let a : Applied = applied_of p x in
      let b : Applied = applied_of r y in
      let fa : IsFull ns a = subst (IsFull ns) (sym (child-applied (IsFull ns) o p x f.0)) f.0.2 in
      let fb : IsFull ns b = subst (IsFull ns) (sym (child-applied (IsFull ns) q r y g.0)) g.0.2 in
      let rest = made d e f.1 g.1 (ap after_first h) in (
        sides_of a b ∷ rest.0,
        All-cons HasInjectiveSides (sides_of a b) rest.0 (record { left = fa.injective; right = fb.injective }) rest.1,
        (matches_itself a b, rest.2),
      )
  made (scope i d) (scope j e) f g h =
      let inner = made i j f.0 g.0 (ap first_scope h) in
      let rest = made d e f.1 g.1 (ap after_first h) in
      (inner.0 ++ rest.0, All-append HasInjectiveSides inner.0 rest.0 inner.1 rest.1, (inner.0, rest.0, refl, inner.2, rest.2))
  made d e f g h = let m : kind (normal_args es d) ≡ kind (normal_args es e) = ap kind h in absurd (omega arith)

-- the canonical nodes of twins, with the names of the two sides put in
module _ (k : Kept) (stored : Stored k) (e : Sides) (twins : AreTwins k e) (f g : Form) (left : nameless_node f ≡ node_of (nodes_of k) (to_applied e.l)) (right : nameless_node g ≡ node_of (nodes_of k) (to_applied e.r)) where
  one_normal : normal (entries_of k) (nameless_node f) ≡ normal (entries_of k) (nameless_node g)
  one_normal = ap (normal (entries_of k)) left ∙ (twins.twin.same ∙ sym (ap (normal (entries_of k)) right))

  full-args : (a : Applied) (t : DTerm) → IsFull (nodes_of k) a → t ≡ node_of (nodes_of k) a → EachChild (IsFull (nodes_of k)) t.args
  full-args a t full is =
      subst (λ (x : DTerm). EachChild (IsFull (nodes_of k)) x.args) (sym is)
      (EachChild-map (λ b. (b.0 < a.0) × IsFull (nodes_of k) b) (IsFull (nodes_of k)) (λ b h. h.1) (node_of (nodes_of k) a).args (full-children (nodes_of k) stored.sane.sound.canonical a full))

  left-args : EachChild (IsFull (nodes_of k)) (nameless_node f).args
  left-args = full-args (to_applied e.l) (nameless_node f) twins.left left

  right-args : EachChild (IsFull (nodes_of k)) (nameless_node g).args
  right-args = full-args (to_applied e.r) (nameless_node g) twins.twin.full right

  -- some equations of the children make them alike
  pub not_never : ¬ AreNeverAlike f g
  not_never never =
      let r = made k (nameless_node f).args (nameless_node g).args left-args right-args (ap (λ (t : DTerm). t.args) one_normal) in
      never r.0 r.1 (record {
        operators = suc_inj (ap (λ (t : DTerm). t.op) one_normal);
        payloads = ap (λ (t : DTerm). t.payloads) one_normal;
        args = r.2;
      })

  -- and those that do are of full ids that find alike
  pub twin-children : (cs : List Sides) → AreAlikeForms f g cs → All HasInjectiveSides cs → AreChildrenOf k e cs
  twin-children cs alike once = record {
    nodes = alike_nodes k e f g left right cs alike;
    injective = once;
    alike = children-alike k (nameless_node f).args (nameless_node g).args cs left-args right-args (ap (λ (t : DTerm). t.args) one_normal) alike.args;
    fits = λ large. elim (large_child f g cs alike large) [
      | inl wide ↦ inl (wide_at (nodes_of k) (to_applied e.l) f left wide)
      | inr wide ↦ inr (wide_at (nodes_of k) (to_applied e.r) g right wide)
    ];
  }
