-- Binders: another bound name, and equality under a binder and out of it.
use Rattle.std.proofs.Common.{◌≡◌, ◌≢◌, ◌↔◌, ℕ, zero, suc, List, sym, ◌∙◌, ap, refl, subst, inl, inr}
use Rattle.std.specs.Prelude.{Contains, ◌⊎◌, map}
use Rattle.std.proofs.lemmas.Bool.{cases_eq}
use Rattle.std.proofs.lemmas.List.Elements.{Contains-append_left}
use Rattle.std.specs.Prelude.{[]}
use Rattle.slotted_lists.proofs.Contained.{Contains-map}
use Rattle.slotted_theory.specs.Term.{Args, Term, done, bind}
use Rattle.slotted_theory.specs.Nameless.{DTerm, extend, scope, nameless_args, moved, Alpha, under, entered, opened}
use Rattle.slotted_theory.specs.Renaming.{IsInjective, swapped, renamed_args}
use Rattle.slotted_theory.specs.Derives.{Equal, moving}
use Rattle.slotted_theory.specs.Shape.{outside, free_names, IsFreeIn}
use Rattle.slotted_theory.proofs.Names.{extend-same, extend-other, extend-injective}
use Rattle.slotted_theory.proofs.Laws.{moved-nameless_args, nameless_args-renamed, moved-moved, moved-id}
use Rattle.slotted_theory.proofs.FreeNames.{Contains-outside, moved_args-agrees, moved-agrees, free_names-moved}
use Rattle.slotted_theory.proofs.Bijections.{to-injective, swap, opposite, swapped-first, swapped-other}
use Rattle.slotted_theory.proofs.ByBijection.{MovesAs, moves_as, moved-back}
use Rattle.slotted_theory.proofs.Equals.{Equal-along}

-- what is free in the arguments under a binder, and is not its name, is free outside it
IsFreeIn-bind : (x y : ℕ) (a : Args) → y ≢ x → IsFreeIn y a → IsFreeIn y (bind x a done)
IsFreeIn-bind x y a n h =
    let e : free_names (nameless_args (extend x (λ w. w)) a) ≡ map (extend x (λ w. w)) (free_names (nameless_args (λ w. w) a)) =
    ap free_names (sym (moved-nameless_args (extend x (λ w. w)) (λ w. w) a)) ∙ free_names-moved (extend x (λ w. w)) (nameless_args (λ w. w) a) in
    let m : Contains (map (extend x (λ w. w)) (free_names (nameless_args (λ w. w) a))) (extend x (λ w. w) y) = Contains-map (extend x (λ w. w)) (free_names (nameless_args (λ w. w) a)) y h in
    let k : Contains (free_names (nameless_args (extend x (λ w. w)) a)) (suc y) = subst (λ v. v) (λ i. Contains (sym e i) (extend-other x (λ w. w) y n i)) m in
    Contains-append_left (outside (free_names (nameless_args (extend x (λ w. w)) a))) [] y (Contains-outside (free_names (nameless_args (extend x (λ w. w)) a)) y k)

-- under either binder a name has one number, when the two bound names change places
extend-swapped : (x z : ℕ) (ρ : ℕ → ℕ) (y : ℕ) → (y ≢ x → y ≢ z) → extend z ρ (swapped x z y) ≡ extend x ρ y
extend-swapped x z ρ y h = elim (cases_eq y x) [
  | inl e ↦ extend-same z ρ (swapped x z y) (swapped-first x z y e) ∙ sym (extend-same x ρ y e)
  | inr n ↦ ap (extend z ρ) (swapped-other x z y n (h n)) ∙ (extend-other z ρ y (h n) ∙ sym (extend-other x ρ y n))
]

nameless_args-swapped : (x z : ℕ) (ρ : ℕ → ℕ) (a : Args) → ((y : ℕ) → IsFreeIn y a → y ≢ x → y ≢ z) → nameless_args (extend x ρ) a ≡ nameless_args (extend z ρ) (renamed_args (swapped x z) a)
nameless_args-swapped x z ρ a h =
    sym (moved-nameless_args (extend x ρ) (λ y. y) a)
    ∙ (moved_args-agrees (extend x ρ) (λ y. extend z ρ (swapped x z y)) (nameless_args (λ y. y) a) (λ y c. sym (extend-swapped x z ρ y (h y c)))
    ∙ (moved-nameless_args (λ y. extend z ρ (swapped x z y)) (λ y. y) a
    ∙ sym (nameless_args-renamed (swapped x z) (to-injective (swap x z)) (extend z ρ) a)))

-- a bound name may be changed to a fresh one, whatever numbers the names outside have
pub nameless_args-bind : (x z : ℕ) (ρ : ℕ → ℕ) (a rest : Args) → (z ≡ x) ⊎ (¬ IsFreeIn z (bind x a done)) → nameless_args ρ (bind x a rest) ≡ nameless_args ρ (bind z (renamed_args (swapped x z) a) rest)
nameless_args-bind x z ρ a rest (inl e) = ap (λ d. scope d (nameless_args ρ rest)) (nameless_args-swapped x z ρ a (λ y c n m. n (m ∙ e)))
nameless_args-bind x z ρ a rest (inr f) = ap (λ d. scope d (nameless_args ρ rest)) (nameless_args-swapped x z ρ a (λ y c n m. f (subst (λ w. IsFreeIn w (bind x a done)) m (IsFreeIn-bind x y a n c))))

pub Alpha-bind : (t : Term) (x z : ℕ) (a rest : Args) → (z ≡ x) ⊎ (¬ IsFreeIn z (bind x a done)) → Alpha (record t { args = bind x a rest }) (record t { args = bind z (renamed_args (swapped x z) a) rest })
Alpha-bind t x z a rest h = λ i. record { op = t.op; payloads = t.payloads; args = nameless_args-bind x z (λ y. y) a rest h i }

-- an injective function on names neither adds nor loses an equality
pub Equal-moved : {E : List (DTerm × DTerm)} (f : ℕ → ℕ) → IsInjective f → (d e : DTerm) → Equal E d e ↔ Equal E (moved f d) (moved f e)
Equal-moved f inj d e = (
  moving f inj,
  λ h.
      let r : MovesAs f d e = moves_as f inj d e in
      Equal-along (ap (moved r.bijection.back) (sym r.left) ∙ moved-back r.bijection d) (ap (moved r.bijection.back) (sym r.right) ∙ moved-back r.bijection e) (moving r.bijection.back (to-injective (opposite r.bijection)) h),
)

pub Equal-under : {E : List (DTerm × DTerm)} (x : ℕ) (d e : DTerm) → Equal E d e ↔ Equal E (under x d) (under x e)
Equal-under x d e = Equal-moved (extend x (λ y. y)) (extend-injective x (λ y. y) (λ y w p. p)) d e

-- binding the fresh name that a term was opened with gives the term again
extend-entered : (z y : ℕ) → ¬ (y ≡ suc z) → extend z (λ w. w) (entered z y) ≡ y
extend-entered z zero h = extend-same z (λ w. w) z refl
extend-entered z (suc y) h = extend-other z (λ w. w) y (λ e. h (ap suc e))

under-opened : (z : ℕ) (d : DTerm) → ¬ Contains (outside (free_names d.args)) z → under z (opened z d) ≡ d
under-opened z d h =
    moved-moved (extend z (λ w. w)) (entered z) d
    ∙ (moved-agrees (λ y. extend z (λ w. w) (entered z y)) (λ y. y) d (λ y c. extend-entered z y (λ e. h (Contains-outside (free_names d.args) z (subst (Contains (free_names d.args)) e c))))
    ∙ moved-id d)

pub Equal-opened : {E : List (DTerm × DTerm)} (z : ℕ) (d e : DTerm) → ¬ Contains (outside (free_names d.args)) z → ¬ Contains (outside (free_names e.args)) z → Equal E d e ↔ Equal E (opened z d) (opened z e)
Equal-opened {E} z d e h k =
    let u : Equal E (opened z d) (opened z e) ↔ Equal E (under z (opened z d)) (under z (opened z e)) = Equal-under z (opened z d) (opened z e) in
    (λ q. u.1 (Equal-along (sym (under-opened z d h)) (sym (under-opened z e k)) q), λ q. Equal-along (under-opened z d h) (under-opened z e k) (u.0 q))
