-- Substitutions on small terms, computed: var is operator 1, lam 2, app 3, and a word 4.
use Rattle.std.proofs.Common.{◌≡◌, ◌≢◌, ℕ, [], ◌∷◌, length, ap, refl, inl, inr, arith}
use Rattle.std.specs.Prelude.{Contains}
use Rattle.slotted_lists.proofs.Contained.{Contains-nil, contains_cases}
use Rattle.slotted_theory.specs.Term.{Term, done, name, bind}
use Rattle.slotted_theory.specs.Nameless.{DTerm, nameless}
use Rattle.slotted_theory.specs.Shape.{free_names}
use Rattle.slotted_model_rules.specs.Substitution.{named_node, named_before, substituted, StandsIn, replaced, HasOthersBound}
use Rattle.slotted_model_rules.proofs.Substitutions.Substituting.{kept-substituted}
use Rattle.slotted_model_rules.proofs.Substitutions.Replacing.{replaced-substituted}

abbrev pub var : ℕ → Term
var x = named_node 1 [] (name x done)

abbrev pub lam : ℕ → Term → Term
lam x b = named_node 2 [] (bind x (named_before b done) done)

abbrev pub app : Term → Term → Term
app f a = named_node 3 [] (named_before f (named_before a done))

-- the word a
abbrev pub word : Term
word = named_node 4 ((97 ∷ []) ∷ []) done

-- (lam $7 (app (var $7) (var $8)))[(var $8) := (var $7)] is (lam $9 (app (var $9) (var $7)))
would_capture : substituted (nameless (var 8)) (nameless (var 7)) (nameless (lam 7 (app (var 7) (var 8)))) ≡ nameless (lam 9 (app (var 9) (var 7)))
would_capture = refl

-- so the name 7 that was put in is free in the result
pub put_in_is_free : Contains (free_names (substituted (nameless (var 8)) (nameless (var 7)) (nameless (lam 7 (app (var 7) (var 8))))).args) 7
put_in_is_free =
    kept-substituted (nameless (var 8)) (nameless (var 7)) (nameless (lam 7 (app (var 7) (var 8)))) stands 7 (0, omega arith, refl)
  where
    stands : StandsIn (nameless (var 8)) (nameless (lam 7 (app (var 7) (var 8))))
    stands = inr (inl (inl (inr (inr (inl (inl refl))))))

-- replaced as it is written the name 7 would be captured, since the binder has it: so the binder has to have another name
captured : replaced (var 8) (var 7) (lam 7 (app (var 7) (var 8))) ≡ lam 7 (app (var 7) (var 7))
captured = refl

is_captured : nameless (replaced (var 8) (var 7) (lam 7 (app (var 7) (var 8)))) ≢ substituted (nameless (var 8)) (nameless (var 7)) (nameless (lam 7 (app (var 7) (var 8))))
is_captured p = let e : ◌≡◌ {A = ℕ} 0 1 = ap (λ (d : DTerm). length (free_names d.args)) p in omega arith

-- where the binder has another name, it is what is written
written : replaced (var 8) (var 7) (lam 9 (app (var 9) (var 8))) ≡ lam 9 (app (var 9) (var 7))
written = refl

pub others_bound : HasOthersBound (var 8) (var 7) (lam 9 (app (var 9) (var 8)))
others_bound = (other 8 9 (λ e. omega arith), other 7 9 (λ e. omega arith), ((tt, (tt, tt)), tt), tt)
  where
    other : (x y : ℕ) → y ≢ x → ¬ Contains (x ∷ []) y
    other x y n c = elim (contains_cases x [] y c) [
      | inl e ↦ n e
      | inr h ↦ Contains-nil y h
    ]

written_is_substituted : nameless (lam 9 (app (var 9) (var 7))) ≡ substituted (nameless (var 8)) (nameless (var 7)) (nameless (lam 9 (app (var 9) (var 8))))
written_is_substituted = replaced-substituted (var 8) (var 7) (lam 9 (app (var 9) (var 8))) others_bound

-- (app (app a a) (app a a))[(app a a) := a] is (app a a): what comes of replacing is not searched again
not_again : substituted (nameless (app word word)) (nameless word) (nameless (app (app word word) (app word word))) ≡ nameless (app word word)
not_again = refl

-- a[a := (app a a)] is (app a a), though a stands in it
not_inside : substituted (nameless word) (nameless (app word word)) (nameless word) ≡ nameless (app word word)
not_inside = refl

-- (lam $7 (var $7))[(var $7) := a] is (lam $9 (var $9)): the bound name is not the free one
bound_stays : substituted (nameless (var 7)) (nameless word) (nameless (lam 7 (var 7))) ≡ nameless (lam 9 (var 9))
bound_stays = refl

-- what is replaced may be bound elsewhere: (app (lam $5 (app (var $5) (var $8))) (lam $6 (var $6)))[(lam $7 (var $7)) := a]
up_to_bound_names : substituted (nameless (lam 7 (var 7))) (nameless word) (nameless (app (lam 5 (app (var 5) (var 8))) (lam 6 (var 6)))) ≡ nameless (app (lam 5 (app (var 5) (var 8))) word)
up_to_bound_names = refl
