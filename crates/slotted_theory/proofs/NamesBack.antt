-- Each nameless term is that of a named one: a binder gets a name above all that are free under it, and from any k on.
use Rattle.std.proofs.Common.{◌≡◌, ℕ, zero, suc, ◌<◌, ◌∙◌, ap, refl, arith}
use Rattle.std.specs.Prelude.{◌≤◌, Contains, map, max}
use Rattle.std.proofs.lemmas.List.Elements.{Contains-append_left, Contains-append_right}
use Rattle.slotted_lists.proofs.Contained.{contains_head, contains_tail, Contains-map, above, Contains-below}
use Rattle.slotted_theory.specs.Term.{Args, Term, done, name, child, bind}
use Rattle.slotted_theory.specs.Nameless.{DArgs, DTerm, stop, place, sub, scope, extend, nameless_args, nameless}
use Rattle.slotted_theory.specs.Shape.{outside, free_names}
use Rattle.slotted_theory.proofs.FreeNames.{Contains-outside}
use Rattle.slotted_theory.proofs.Names.{extend-same, extend-other}

-- the names of numbers under one more binder, of the name z
abbrev named_under : ℕ → (ℕ → ℕ) → ℕ → ℕ
named_under z σ zero = z
named_under z σ (suc n) = σ n

-- a name of at least k that none of what is free under the binder has
abbrev binder_name : ℕ → (ℕ → ℕ) → DArgs → ℕ
binder_name k σ inner = max k (above (map σ (outside (free_names inner))))

-- the arguments with names, where σ names the numbers outside
abbrev named_args : ℕ → (ℕ → ℕ) → DArgs → Args
named_args k σ stop = done
named_args k σ (place x rest) = name (σ x) (named_args k σ rest)
named_args k σ (sub op payloads args rest) = child op payloads (named_args k σ args) (named_args k σ rest)
named_args k σ (scope inner rest) = bind (binder_name k σ inner) (named_args k (named_under (binder_name k σ inner) σ) inner) (named_args k σ rest)

-- a number under the binder is found again by its name
under-back : (k : ℕ) (ρ σ : ℕ → ℕ) (inner : DArgs) → ((x : ℕ) → Contains (outside (free_names inner)) x → ρ (σ x) ≡ x) → (x : ℕ) → Contains (free_names inner) x →
    extend (binder_name k σ inner) ρ (named_under (binder_name k σ inner) σ x) ≡ x
under-back k ρ σ inner back zero c = extend-same (binder_name k σ inner) ρ (binder_name k σ inner) refl
under-back k ρ σ inner back (suc n) c =
    let c' : Contains (outside (free_names inner)) n = Contains-outside (free_names inner) n c in
    let l : σ n < above (map σ (outside (free_names inner))) = Contains-below (map σ (outside (free_names inner))) (σ n) (Contains-map σ (outside (free_names inner)) n c') in
    extend-other (binder_name k σ inner) ρ (σ n) (λ e. omega arith) ∙ ap suc (back n c')

named-back : (k : ℕ) (ρ σ : ℕ → ℕ) (d : DArgs) → ((x : ℕ) → Contains (free_names d) x → ρ (σ x) ≡ x) → nameless_args ρ (named_args k σ d) ≡ d
named-back k ρ σ stop back = refl
named-back k ρ σ (place x rest) back =
    λ i. place (back x (contains_head x (free_names rest)) i) (named-back k ρ σ rest (λ y c. back y (contains_tail x (free_names rest) y c)) i)
named-back k ρ σ (sub op payloads args rest) back =
    λ i. sub op payloads (named-back k ρ σ args (λ y c. back y (Contains-append_left (free_names args) (free_names rest) y c)) i)
    (named-back k ρ σ rest (λ y c. back y (Contains-append_right (free_names args) (free_names rest) y c)) i)
named-back k ρ σ (scope inner rest) back =
    let z : ℕ = binder_name k σ inner in
    let own : (x : ℕ) → Contains (outside (free_names inner)) x → ρ (σ x) ≡ x = λ y c. back y (Contains-append_left (outside (free_names inner)) (free_names rest) y c) in
    λ i. scope (named-back k (extend z ρ) (named_under z σ) inner (under-back k ρ σ inner own) i)
    (named-back k ρ σ rest (λ y c. back y (Contains-append_right (outside (free_names inner)) (free_names rest) y c)) i)

-- each binder of the arguments has a name of at least k
abbrev pub BindersFrom : ℕ → Args → Type 0
BindersFrom k done = Unit {0}
BindersFrom k (name x rest) = BindersFrom k rest
BindersFrom k (child op payloads args rest) = BindersFrom k args × BindersFrom k rest
BindersFrom k (bind x inner rest) = (k ≤ x) × BindersFrom k inner × BindersFrom k rest

named-binders : (k : ℕ) (σ : ℕ → ℕ) (d : DArgs) → BindersFrom k (named_args k σ d)
named-binders k σ stop = tt
named-binders k σ (place x rest) = named-binders k σ rest
named-binders k σ (sub op payloads args rest) = (named-binders k σ args, named-binders k σ rest)
named-binders k σ (scope inner rest) = (omega arith, named-binders k (named_under (binder_name k σ inner) σ) inner, named-binders k σ rest)

pub a_named_term_from : (k : ℕ) (d : DTerm) → (t : Term) × (nameless t ≡ d) × BindersFrom k t.args
a_named_term_from k d =
    let e : nameless_args (λ x. x) (named_args k (λ x. x) d.args) ≡ d.args = named-back k (λ x. x) (λ x. x) d.args (λ x c. refl) in (
      record { op = d.op; payloads = d.payloads; args = named_args k (λ x. x) d.args },
      λ i. record { op = d.op; payloads = d.payloads; args = e i },
      named-binders k (λ x. x) d.args,
    )

pub a_named_term : (d : DTerm) → (t : Term) × (nameless t ≡ d)
a_named_term d = let r : (t : Term) × (nameless t ≡ d) × BindersFrom 0 t.args = a_named_term_from 0 d in (r.0, r.1)
