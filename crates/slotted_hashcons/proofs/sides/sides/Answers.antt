-- The slots of one number are partners, and the sides by these partners are twins.
use Rattle.std.proofs.Common.{rules, ◌≡◌, ◌↔◌, ◌<◌, ℕ, suc, List, [], ◌∷◌, length, refl, ap, ◌∙◌, sym, subst, arith}
use Rattle.std.specs.Prelude.{Contains}
use Rattle.slotted_model.specs.Applied.{Applied, keys}
use Rattle.slotted_model.specs.Classes.{IsFull, canonical_slots}
use Rattle.slotted_model.specs.Correspondence.{IsFullMap, IsPartialInjection, identity, turned}
use Rattle.slotted_model.specs.Normal.{HasOneNumber}
use Rattle.slotted_model.specs.ProofList.{Equation}
use Rattle.slotted_model.proofs.Correspondences.FullIds.{full_id}
use Rattle.slotted_model.proofs.Finds.NormalIds.{keys-identity}
use Rattle.slotted_proofs.specs.Equations.{to_applied, pairs_of}
use Rattle.slotted_classes.specs.Kept.{nodes_of, entries_of}
use Rattle.slotted_classes.proofs.KeptLists.{length-nodes_of}
use Rattle.slotted_hashcons.specs.Sides.{number_partners}
use Rattle.slotted_hashcons.proofs.NumberPartners.{partners-partial, partner-pairs, twin-sides}
use Rattle.slotted_hashcons.proofs.sides.sides.Goals as goal

pub numbered_equation-requires-clause-different : goal.numbered_equation-requires-clause-different
numbered_equation-requires-clause-different g c = c.requires.shape.2.different

pub numbered_equation-requires-clause-partners : goal.numbered_equation-requires-clause-partners
numbered_equation-requires-clause-partners g c =
    let k = c.args.store.now in
    let nodes = nodes_of k in
    let P : List ℕ = canonical_slots nodes c.args.left in
    let Q : List ℕ = canonical_slots nodes c.args.right in
    let l = ap (λ (a : Applied). a.1) c.in_ok-l.ensures.ok in
    let r = ap (λ (a : Applied). a.1) c.in_ok-r.ensures.ok in
    let lp : keys c.in_ok-l.l.m ≡ P = ap keys l ∙ keys-identity P in
    let rq : keys c.in_ok-r.r.m ≡ Q = ap keys r ∙ keys-identity Q in
    subst (λ K. IsPartialInjection K (keys c.in_ok-l.l.m) (number_partners c.args.names.now c.args.others.now c.in_ok-r.r.m)) (sym rq)
    (subst (λ K. IsPartialInjection Q K (number_partners c.args.names.now c.args.others.now c.in_ok-r.r.m)) (sym lp)
    (subst (λ m. IsPartialInjection Q P (number_partners c.args.names.now c.args.others.now m)) (sym r)
    (partners-partial k c.args.left c.args.right c.requires.shape.0 c.args.names.now c.args.others.now c.requires.shape.1 c.requires.shape.2 c.requires.canonical
    (omega (arith, c.requires.left, length-nodes_of k)) (omega (arith, c.requires.right, length-nodes_of k)))))

pub returns-clause-ok : goal.returns-clause-ok
returns-clause-ok g c =
    let k = c.args.store.now in
    let nodes = nodes_of k in
    let P : List ℕ = canonical_slots nodes c.args.left in
    let Q : List ℕ = canonical_slots nodes c.args.right in
    let m = c.args.names.now in
    let n = c.args.others.now in
    let e = c.in_ok-equation.equation in
    let l = ap (λ (a : Applied). a.1) c.in_ok-l.ensures.ok in
    let r = ap (λ (a : Applied). a.1) c.in_ok-r.ensures.ok in
    let li : c.args.left < length nodes = omega (arith, c.requires.left, length-nodes_of k) in
    let lj : c.args.right < length nodes = omega (arith, c.requires.right, length-nodes_of k) in
    let w = c.in_ok-equation.ensures.ok in
    let a : Applied = to_applied e.l in
    let b : Applied = to_applied e.r in
    let ca : a.0 ≡ c.args.left = ap (λ (x : Equation). x.left) w.equation ∙ ap (λ (x : Applied). x.0) c.in_ok-l.ensures.ok in
    let cb : b.0 ≡ c.args.right = ap (λ (x : Equation). x.right) w.equation ∙ ap (λ (x : Applied). x.0) c.in_ok-r.ensures.ok in
    let lp : keys c.in_ok-l.l.m ≡ P = ap keys l ∙ keys-identity P in
    let rq : keys c.in_ok-r.r.m ≡ Q = ap keys r ∙ keys-identity Q in
    let fa : IsFull nodes a =
    subst (λ x. IsFull nodes (x, a.1)) (sym ca) (full_id nodes c.args.left a.1 li (subst (λ K. IsFullMap K a.1) lp w.left_full)) in
    let fb : IsFull nodes b =
    subst (λ x. IsFull nodes (x, b.1)) (sym cb) (full_id nodes c.args.right b.1 lj (subst (λ K. IsFullMap K b.1) rq w.right_full)) in
    let pairs : pairs_of e ≡ turned P (number_partners m n (identity Q)) =
    ap (λ (x : Equation). x.pairs) w.equation ∙ (λ z. turned (lp z) (number_partners m n (r z))) in
    record {
      left_class = ca;
      right_class = cb;
      left = fa;
      twins = twin-sides k c.args.left c.args.right c.requires.shape.0 m n c.requires.shape.1 c.requires.shape.2 c.requires.canonical li lj a b ca cb fa fb pairs;
      pairs = λ s t. subst (λ A. Contains A (s, t) ↔ HasOneNumber (entries_of k) nodes c.args.left c.args.right s t) (sym pairs)
          (partner-pairs k c.args.left c.args.right c.requires.shape.0 m n c.requires.shape.1 c.requires.shape.2 c.requires.canonical li lj s t);
    }

length-identity : (xs : List ℕ) → length (identity xs) ≡ length xs
length-identity [] = refl
length-identity (x ∷ xs) = ap suc (length-identity xs)

pub returns-in_err-equation-clause-full : goal.returns-in_err-equation-clause-full
returns-in_err-equation-clause-full g c e =
    let nodes = nodes_of c.args.store.now in
    let h = c.in_err-equation.ensures.full (search rules) in
    let l = ap (λ (a : Applied). length a.1) c.in_ok-l.ensures.ok in
    let r = ap (λ (a : Applied). length a.1) c.in_ok-r.ensures.ok in
    omega (arith, h, l, r, length-identity (canonical_slots nodes c.args.left), length-identity (canonical_slots nodes c.args.right))
