-- Bijections of names: a swap, a composition, one that moves 0 to z, and one that agrees with an injective function below a bound.
use Rattle.std.proofs.Common.{◌≡◌, ◌≢◌, ℕ, zero, suc, ◌<◌, ◌≤◌, sym, ◌∙◌, ap, refl, inl, inr, arith}
use Rattle.std.specs.Prelude.{nat_eq, nat_lt, cond}
use Rattle.std.proofs.lemmas.Bool.{eq-eqb, ne_eqb, cases_eq, cases_lt, lt-ltb, le-ltb}
use Rattle.slotted_theory.specs.Renaming.{Bijection, IsInjective, swapped}

pub to-injective : (π : Bijection) → IsInjective π.to
to-injective π x y p = sym (π.back_to x) ∙ (ap π.back p ∙ π.back_to y)

-- the way back
abbrev pub opposite : Bijection → Bijection
opposite π = record { to = π.back; back = π.to; back_to = π.to_back; to_back = π.back_to }

-- first f, and then g
abbrev pub then : Bijection → Bijection → Bijection
then f g = record {
  to = λ x. g.to (f.to x);
  back = λ x. f.back (g.back x);
  back_to = λ x. ap f.back (g.back_to (f.to x)) ∙ f.back_to x;
  to_back = λ x. ap g.to (f.to_back (g.back x)) ∙ g.to_back x;
}

pub swapped-first : (a b x : ℕ) → x ≡ a → swapped a b x ≡ b
swapped-first a b x e = ap (λ c. cond c b (cond (nat_eq x b) a x)) (eq-eqb x a e)

pub swapped-second : (a b x : ℕ) → x ≡ b → swapped a b x ≡ a
swapped-second a b x e = elim (cases_eq x a) [
  | inl d ↦ ap (λ c. cond c b (cond (nat_eq x b) a x)) (eq-eqb x a d) ∙ (sym e ∙ d)
  | inr n ↦ ap (λ c. cond c b (cond (nat_eq x b) a x)) (ne_eqb x a n) ∙ ap (λ c. cond c a x) (eq-eqb x b e)
]

pub swapped-other : (a b x : ℕ) → x ≢ a → x ≢ b → swapped a b x ≡ x
swapped-other a b x n m = ap (λ c. cond c b (cond (nat_eq x b) a x)) (ne_eqb x a n) ∙ ap (λ c. cond c a x) (ne_eqb x b m)

pub swapped-twice : (a b x : ℕ) → swapped a b (swapped a b x) ≡ x
swapped-twice a b x = elim (cases_eq x a) [
  | inl d ↦ swapped-second a b (swapped a b x) (swapped-first a b x d) ∙ sym d
  | inr n ↦ elim (cases_eq x b) [
    | inl e ↦ swapped-first a b (swapped a b x) (swapped-second a b x e) ∙ sym e
    | inr m ↦ ap (swapped a b) (swapped-other a b x n m) ∙ swapped-other a b x n m
  ]
]

-- two names change places
abbrev pub swap : ℕ → ℕ → Bijection
swap a b = record { to = swapped a b; back = swapped a b; back_to = swapped-twice a b; to_back = swapped-twice a b }

-- every name stays
abbrev pub same : Bijection
same = record { to = λ x. x; back = λ x. x; back_to = λ x. refl; to_back = λ x. refl }

-- a bijection that agrees with f below n
pub record Agrees (f : ℕ → ℕ) (n : ℕ) : Type 0 where
  pub bijection : Bijection
  pub agrees : (x : ℕ) → x < n → bijection.to x ≡ f x

-- an injective function can be made a bijection that does the same below n
pub bijection_below : (f : ℕ → ℕ) → IsInjective f → (n : ℕ) → Agrees f n
bijection_below f inj zero = record { bijection = same; agrees = λ x h. absurd (omega arith) }
bijection_below f inj (suc n) =
    let r : Agrees f n = bijection_below f inj n in
    record {
      bijection = then r.bijection (swap (r.bijection.to n) (f n));
      agrees = λ x h. elim (cases_eq x n) [
        | inl e ↦ ap (λ y. swapped (r.bijection.to n) (f n) (r.bijection.to y)) e ∙ (swapped-first (r.bijection.to n) (f n) (r.bijection.to n) refl ∙ ap f (sym e))
        | inr d ↦ ap (swapped (r.bijection.to n) (f n)) (r.agrees x (omega arith))
            ∙ swapped-other (r.bijection.to n) (f n) (f x)
            (λ e. d (to-injective r.bijection x n (r.agrees x (omega arith) ∙ e)))
            (λ e. d (inj x n e))
      ];
    }

-- 0 goes to z, and each number up to z one down
pub down_to : ℕ → ℕ → ℕ
down_to z zero = z
down_to z (suc x) = cond (nat_lt x z) x (suc x)

-- the way back of `down_to`
pub up_from : ℕ → ℕ → ℕ
up_from z x = cond (nat_eq x z) 0 (cond (nat_lt x z) (suc x) x)

pub down_to-zero : (z : ℕ) → down_to z 0 ≡ z
unfolding down_to
down_to-zero z = refl

pub down_to-suc : (z x : ℕ) → x < z → down_to z (suc x) ≡ x
unfolding down_to
down_to-suc z x h = ap (λ c. cond c x (suc x)) (lt-ltb x z h)

down_to-above : (z x : ℕ) → z ≤ x → down_to z (suc x) ≡ suc x
unfolding down_to
down_to-above z x h = ap (λ c. cond c x (suc x)) (le-ltb x z h)

up_from-at : (z x : ℕ) → x ≡ z → up_from z x ≡ 0
unfolding up_from
up_from-at z x e = ap (λ c. cond c 0 (cond (nat_lt x z) (suc x) x)) (eq-eqb x z e)

up_from-below : (z x : ℕ) → x < z → up_from z x ≡ suc x
unfolding up_from
up_from-below z x h =
    let n : x ≢ z = omega arith in
    ap (λ c. cond c 0 (cond (nat_lt x z) (suc x) x)) (ne_eqb x z n) ∙ ap (λ c. cond c (suc x) x) (lt-ltb x z h)

up_from-above : (z x : ℕ) → z < x → up_from z x ≡ x
unfolding up_from
up_from-above z x h =
    let n : x ≢ z = omega arith in
    let l : z ≤ x = omega arith in
    ap (λ c. cond c 0 (cond (nat_lt x z) (suc x) x)) (ne_eqb x z n) ∙ ap (λ c. cond c (suc x) x) (le-ltb x z l)

pub up_down : (z x : ℕ) → up_from z (down_to z x) ≡ x
up_down z zero = ap (up_from z) (down_to-zero z) ∙ up_from-at z z refl
up_down z (suc x) = elim (cases_lt x z) [
  | inl h ↦ ap (up_from z) (down_to-suc z x h) ∙ up_from-below z x h
  | inr h ↦ ap (up_from z) (down_to-above z x h) ∙ up_from-above z (suc x) (omega arith)
]

down_up_above : (z x : ℕ) → z < x → down_to z x ≡ x
down_up_above z zero h = absurd (omega arith)
down_up_above z (suc x) h = down_to-above z x (omega arith)

pub down_up : (z x : ℕ) → down_to z (up_from z x) ≡ x
down_up z x = elim (cases_eq x z) [
  | inl e ↦ ap (down_to z) (up_from-at z x e) ∙ (down_to-zero z ∙ sym e)
  | inr n ↦ elim (cases_lt x z) [
    | inl h ↦ ap (down_to z) (up_from-below z x h) ∙ down_to-suc z x h
    | inr h ↦
        let l : z < x = omega arith in
        ap (down_to z) (up_from-above z x l) ∙ down_up_above z x l
  ]
]

-- takes the place of a binder to the name z, which is above all names there
abbrev pub bind_name : ℕ → Bijection
bind_name z = record { to = down_to z; back = up_from z; back_to = up_down z; to_back = down_up z }
