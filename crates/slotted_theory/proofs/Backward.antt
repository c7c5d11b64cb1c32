-- What is equal without bound names is derivable.
use Rattle.std.proofs.Common.{◌≡◌, ◌≢◌, ℕ, zero, suc, ◌<◌, ◌≤◌, List, sym, ◌∙◌, ap, refl, arith}
use Rattle.std.specs.Prelude.{Contains, map, max, ◌+◌}
use Rattle.slotted_lists.proofs.Contained.{Contains-of_map}
use Rattle.slotted_theory.specs.Term.{Args, Term, done, name, child, bind}
use Rattle.slotted_theory.specs.Nameless.{DArgs, DTerm, stop, place, sub, scope, extend, nameless_args, nameless, moved, moved_args}
use Rattle.slotted_theory.specs.Renaming.{Bijection, IsInjective, renamed, renamed_args}
use Rattle.slotted_theory.specs.Derives.{Derives, asserted, alpha, symmetric, transitive, congruent, renaming, DerivesArgs, both_done, same_name, both_child, same_bind, Equal, listed, reflexive, turned, joined, within, moving, EqualArgs, equal_done, equal_name, equal_child, equal_bind, nameless_pair}
use Rattle.slotted_theory.proofs.Names.{extend-same, extend-other}
use Rattle.slotted_theory.proofs.Laws.{moved-nameless_args, nameless_args-renamed, nameless-renamed, moved_args-id}
use Rattle.slotted_theory.proofs.Bijections.{to-injective, bind_name, down_to, down_to-zero, down_to-suc}
use Rattle.slotted_theory.proofs.FreeNames.{bound, moved_args-agrees_below}
use Rattle.slotted_theory.proofs.ByBijection.{MovesAs, moves_as}

-- under a binder z that is above all names, the first name is the place of the binder
back_to_place : (z x : ℕ) → x < z + 1 → extend z (λ y. y) (down_to z x) ≡ x
back_to_place z zero h = ap (extend z (λ y. y)) (down_to-zero z) ∙ extend-same z (λ y. y) z refl
back_to_place z (suc x) h =
    let l : x < z = omega arith in
    let n : x ≢ z = omega arith in
    ap (extend z (λ y. y)) (down_to-suc z x l) ∙ extend-other z (λ y. y) x n

-- a term whose nameless form is d, with z for its first name and bound by z, is d under the binder
pub under_bind : (z : ℕ) (a : Args) (d : DArgs) → nameless_args (λ y. y) a ≡ d → bound d ≤ z + 1 → nameless_args (extend z (λ y. y)) (renamed_args (down_to z) a) ≡ d
under_bind z a d e h =
    nameless_args-renamed (down_to z) (to-injective (bind_name z)) (extend z (λ y. y)) a
    ∙ (sym (moved-nameless_args (λ y. extend z (λ w. w) (down_to z y)) (λ y. y) a)
    ∙ (ap (moved_args (λ y. extend z (λ w. w) (down_to z y))) e
    ∙ (moved_args-agrees_below (λ y. extend z (λ w. w) (down_to z y)) (λ y. y) d (λ x l. back_to_place z x (omega arith))
    ∙ moved_args-id d)))

-- a term with names for each nameless one
pub record Named (d : DArgs) : Type 0 where
  pub args : Args
  pub is : nameless_args (λ y. y) args ≡ d

pub named : (d : DArgs) → Named d
named stop = record { args = done; is = refl }
named (place x rest) = let r : Named rest = named rest in record { args = name x r.args; is = ap (place x) r.is }
named (sub op payloads args rest) =
    let a : Named args = named args in
    let r : Named rest = named rest in
    record { args = child op payloads a.args r.args; is = λ i. sub op payloads (a.is i) (r.is i) }
named (scope inner rest) =
    let a : Named inner = named inner in
    let r : Named rest = named rest in
    let e : nameless_args (extend (bound inner) (λ y. y)) (renamed_args (down_to (bound inner)) a.args) ≡ inner = under_bind (bound inner) a.args inner a.is (omega arith) in
    record { args = bind (bound inner) (renamed_args (down_to (bound inner)) a.args) r.args; is = λ i. scope (e i) (r.is i) }

-- a bijection on both sides of derivable arguments
pub DerivesArgs-renamed : {E : List (Term × Term)} {a b : Args} (π : Bijection) → DerivesArgs E a b → DerivesArgs E (renamed_args π.to a) (renamed_args π.to b)
DerivesArgs-renamed π both_done = both_done
DerivesArgs-renamed π (same_name a) = same_name (DerivesArgs-renamed π a)
DerivesArgs-renamed π (both_child d a) = both_child (renaming π d) (DerivesArgs-renamed π a)
DerivesArgs-renamed π (same_bind a r) = same_bind (DerivesArgs-renamed π a) (DerivesArgs-renamed π r)

-- two derivable terms whose nameless forms are d and e
pub record Derived (E : List (Term × Term)) (d e : DTerm) : Type 0 where
  pub left : Term
  pub right : Term
  pub left_is : nameless left ≡ d
  pub right_is : nameless right ≡ e
  pub derives : Derives E left right

-- the same of arguments
pub record DerivedArgs (E : List (Term × Term)) (a b : DArgs) : Type 0 where
  pub left : Args
  pub right : Args
  pub left_is : nameless_args (λ y. y) left ≡ a
  pub right_is : nameless_args (λ y. y) right ≡ b
  pub derives : DerivesArgs E left right

derived_moved : (f : ℕ → ℕ) → IsInjective f → {E : List (Term × Term)} {d e : DTerm} → Derived E d e → Derived E (moved f d) (moved f e)
derived_moved f inj {E} {d} {e} r =
    let m : MovesAs f d e = moves_as f inj d e in
    record {
      left = renamed m.bijection.to r.left;
      right = renamed m.bijection.to r.right;
      left_is = nameless-renamed m.bijection.to (to-injective m.bijection) r.left ∙ (ap (moved m.bijection.to) r.left_is ∙ m.left);
      right_is = nameless-renamed m.bijection.to (to-injective m.bijection) r.right ∙ (ap (moved m.bijection.to) r.right_is ∙ m.right);
      derives = renaming m.bijection r.derives;
    }

derived_listed : (E : List (Term × Term)) (d e : DTerm) → Contains (map nameless_pair E) (d, e) → Derived E d e
derived_listed E d e c =
    let r : (p : Term × Term) × Contains E p × (nameless_pair p ≡ (d, e)) = Contains-of_map nameless_pair E (d, e) c in
    record { left = r.0.0; right = r.0.1; left_is = λ i. (r.2 i).0; right_is = λ i. (r.2 i).1; derives = asserted r.1 }

derived_scope : {E : List (Term × Term)} {a b r s : DArgs} → DerivedArgs E a b → DerivedArgs E r s → DerivedArgs E (scope a r) (scope b s)
derived_scope {E} {a} {b} {r} {s} p q =
    let z : ℕ = max (bound a) (bound b) in
    let ea : nameless_args (extend z (λ y. y)) (renamed_args (down_to z) p.left) ≡ a = under_bind z p.left a p.left_is (omega arith) in
    let eb : nameless_args (extend z (λ y. y)) (renamed_args (down_to z) p.right) ≡ b = under_bind z p.right b p.right_is (omega arith) in
    record {
      left = bind z (renamed_args (down_to z) p.left) q.left;
      right = bind z (renamed_args (down_to z) p.right) q.right;
      left_is = λ i. scope (ea i) (q.left_is i);
      right_is = λ i. scope (eb i) (q.right_is i);
      derives = same_bind (DerivesArgs-renamed (bind_name z) p.derives) q.derives;
    }

-- equal nameless terms are the nameless forms of two derivable ones, if the listed ones are
mutual
  backward : {E : List (Term × Term)} {F : List (DTerm × DTerm)} → ((d e : DTerm) → Contains F (d, e) → Derived E d e) → {d e : DTerm} → Equal F d e → Derived E d e
  backward l {d} {e} (listed c) = l d e c
  backward l {d} {e} reflexive =
      let n : Named d.args = named d.args in
      let t : Term = record { op = d.op; payloads = d.payloads; args = n.args } in
      let is : nameless t ≡ d = λ i. record { op = d.op; payloads = d.payloads; args = n.is i } in
      record { left = t; right = t; left_is = is; right_is = is; derives = alpha refl }
  backward l (turned h) =
      let r : Derived _ _ _ = backward l h in
      record { left = r.right; right = r.left; left_is = r.right_is; right_is = r.left_is; derives = symmetric r.derives }
  backward l (joined h k) =
      let r : Derived _ _ _ = backward l h in
      let s : Derived _ _ _ = backward l k in
      record {
        left = r.left;
        right = s.right;
        left_is = r.left_is;
        right_is = s.right_is;
        derives = transitive r.derives (transitive (alpha (r.right_is ∙ sym s.left_is)) s.derives);
      }
  backward l (within {op = o} {payloads = p} a) =
      let r : DerivedArgs _ _ _ = backward_args l a in
      record {
        left = record { op = o; payloads = p; args = r.left };
        right = record { op = o; payloads = p; args = r.right };
        left_is = λ i. record { op = o; payloads = p; args = r.left_is i };
        right_is = λ i. record { op = o; payloads = p; args = r.right_is i };
        derives = congruent r.derives;
      }
  backward l (moving f inj h) = derived_moved f inj (backward l h)

  backward_args : {E : List (Term × Term)} {F : List (DTerm × DTerm)} → ((d e : DTerm) → Contains F (d, e) → Derived E d e) → {a b : DArgs} → EqualArgs F a b → DerivedArgs E a b
  backward_args l equal_done = record { left = done; right = done; left_is = refl; right_is = refl; derives = both_done }
  backward_args l (equal_name {x = x} a) =
      let r : DerivedArgs _ _ _ = backward_args l a in
      record { left = name x r.left; right = name x r.right; left_is = ap (place x) r.left_is; right_is = ap (place x) r.right_is; derives = same_name r.derives }
  backward_args l (equal_child h a) =
      let r : Derived _ _ _ = backward l h in
      let s : DerivedArgs _ _ _ = backward_args l a in
      record {
        left = child r.left.op r.left.payloads r.left.args s.left;
        right = child r.right.op r.right.payloads r.right.args s.right;
        left_is = λ i. sub (r.left_is i).op (r.left_is i).payloads (r.left_is i).args (s.left_is i);
        right_is = λ i. sub (r.right_is i).op (r.right_is i).payloads (r.right_is i).args (s.right_is i);
        derives = both_child r.derives s.derives;
      }
  backward_args l (equal_bind a r) = derived_scope (backward_args l a) (backward_args l r)

-- terms that are equal without bound names are derivable
pub Equal-derives : {E : List (Term × Term)} (t u : Term) → Equal (map nameless_pair E) (nameless t) (nameless u) → Derives E t u
Equal-derives {E} t u h =
    let r : Derived E (nameless t) (nameless u) = backward (derived_listed E) h in
    transitive (alpha (sym r.left_is)) (transitive r.derives (alpha r.right_is))
