use Rattle.std.proofs.Common.{rules, ◌≡◌, ◌∙◌, ℕ, List, length, ap, arith, subst, sym}
use Rattle.slotted_lists.proofs.Maps.{length-keys}
use Rattle.slotted_model.specs.Applied.{Applied, keys}
use Rattle.slotted_model.specs.Classes.{IsFull, canonical_slots}
use Rattle.slotted_model.specs.Correspondence.{IsFullMap, IsPartialInjection, identity, same_names, turned}
use Rattle.slotted_model.specs.Find.{used_slots}
use Rattle.slotted_model.specs.ProofList.{Equation}
use Rattle.slotted_model.proofs.Correspondences.FullIds.{full_id}
use Rattle.slotted_model.proofs.Represented.FillingEquations.{keys-identity}
use Rattle.slotted_proofs.specs.Equations.{to_applied}
use Rattle.slotted_classes.specs.Kept.{nodes_of, entries_of}
use Rattle.slotted_classes.proofs.KeptLists.{length-nodes_of}
use Rattle.slotted_operations.proofs.Ids.MissingNames.{pairs-partial, pairs-turned}
use Rattle.slotted_operations.proofs.Unions.WholeUnions.{large-slots}
use Rattle.slotted_operations.proofs.sides.class_equation.Goals as goal

-- the slots of a class that is its own id
own-keys : (i : ℕ) (S : List ℕ) (a : Applied) → a ≡ (i, identity S) → keys a.1 ≡ S
own-keys i S a e = ap (λ (x : Applied). keys x.1) e ∙ keys-identity S

pub own_id-requires-clause-rows : goal.own_id-requires-clause-rows
own_id-requires-clause-rows g c = c.requires.good.rows

pub own_id-requires-clause-within : goal.own_id-requires-clause-within
own_id-requires-clause-within g c = omega (arith, c.requires.left.in_range, length-nodes_of c.args.store.now)

pub own_id-requires-2-clause-rows : goal.own_id-requires-2-clause-rows
own_id-requires-2-clause-rows g c = c.requires.good.rows

pub own_id-requires-2-clause-within : goal.own_id-requires-2-clause-within
own_id-requires-2-clause-within g c = omega (arith, c.requires.right.in_range, length-nodes_of c.args.store.now)

pub equation_over-requires-clause-different : goal.equation_over-requires-clause-different
equation_over-requires-clause-different g c = c.requires.left.injective

pub equation_over-requires-clause-partners : goal.equation_over-requires-clause-partners
equation_over-requires-clause-partners g c =
    let k = c.args.store.now in
    let nodes = nodes_of k in
    let used = used_slots (entries_of k) in
    let l : Applied = to_applied c.args.l.now in
    let r : Applied = to_applied c.args.r.now in
    let A : List (ℕ × ℕ) = same_names r.1 l.1 in
    let P : List ℕ = canonical_slots nodes l.0 in
    let Q : List ℕ = canonical_slots nodes r.0 in
    let lp : keys c.in_ok-left.left.m ≡ P = own-keys l.0 P (to_applied c.in_ok-left.left) c.in_ok-left.ensures.ok in
    let rq : keys c.in_ok-right.right.m ≡ Q = own-keys r.0 Q (to_applied c.in_ok-right.right) c.in_ok-right.ensures.ok in
    subst (λ K. IsPartialInjection K (keys c.in_ok-left.left.m) A) (sym rq)
    (subst (λ K. IsPartialInjection Q K A) (sym lp) (pairs-partial nodes used used r l c.requires.right c.requires.left))

pub returns-clause-ok : goal.returns-clause-ok
returns-clause-ok g c =
    let k = c.args.store.now in
    let nodes = nodes_of k in
    let used = used_slots (entries_of k) in
    let l : Applied = to_applied c.args.l.now in
    let r : Applied = to_applied c.args.r.now in
    let A : List (ℕ × ℕ) = same_names r.1 l.1 in
    let P : List ℕ = canonical_slots nodes l.0 in
    let Q : List ℕ = canonical_slots nodes r.0 in
    let lp : keys c.in_ok-left.left.m ≡ P = own-keys l.0 P (to_applied c.in_ok-left.left) c.in_ok-left.ensures.ok in
    let rq : keys c.in_ok-right.right.m ≡ Q = own-keys r.0 Q (to_applied c.in_ok-right.right) c.in_ok-right.ensures.ok in
    let w = c.in_ok-equation.ensures.ok in
    let a : Applied = to_applied c.in_ok-equation.equation.l in
    let b : Applied = to_applied c.in_ok-equation.equation.r in
    let ca : a.0 ≡ l.0 = ap (λ (x : Equation). x.left) w.equation ∙ ap (λ (x : Applied). x.0) c.in_ok-left.ensures.ok in
    let cb : b.0 ≡ r.0 = ap (λ (x : Equation). x.right) w.equation ∙ ap (λ (x : Applied). x.0) c.in_ok-right.ensures.ok in
    let pairs : same_names a.1 b.1 ≡ same_names l.1 r.1 =
    ap (λ (x : Equation). x.pairs) w.equation ∙ (ap (λ K. turned K A) lp ∙ pairs-turned nodes used used l r c.requires.left c.requires.right) in
    record {
      left = subst (λ x. IsFull nodes (x, a.1)) (sym ca) (full_id nodes l.0 a.1 c.requires.left.in_range (subst (λ K. IsFullMap K a.1) lp w.left_full));
      right = subst (λ x. IsFull nodes (x, b.1)) (sym cb) (full_id nodes r.0 b.1 c.requires.right.in_range (subst (λ K. IsFullMap K b.1) rq w.right_full));
      equation = λ i. record { left = ca i; right = cb i; pairs = pairs i };
    }

pub returns-in_err-equation-clause-full : goal.returns-in_err-equation-clause-full
returns-in_err-equation-clause-full g c e =
    let k = c.args.store.now in
    let nodes = nodes_of k in
    let l : Applied = to_applied c.args.l.now in
    let r : Applied = to_applied c.args.r.now in
    let P : List ℕ = canonical_slots nodes l.0 in
    let Q : List ℕ = canonical_slots nodes r.0 in
    let h = c.in_err-equation.ensures.full (search rules) in
    let lp : length c.in_ok-left.left.m ≡ length P = sym (length-keys c.in_ok-left.left.m) ∙ ap length (own-keys l.0 P (to_applied c.in_ok-left.left) c.in_ok-left.ensures.ok) in
    let rq : length c.in_ok-right.right.m ≡ length Q = sym (length-keys c.in_ok-right.right.m) ∙ ap length (own-keys r.0 Q (to_applied c.in_ok-right.right) c.in_ok-right.ensures.ok) in
    large-slots k l.0 r.0 c.requires.left.in_range c.requires.right.in_range (omega (arith, h, lp, rq))
