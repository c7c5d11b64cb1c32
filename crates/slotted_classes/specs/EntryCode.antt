-- How the entries of finds and of proof lists are told apart, for a struct whose value holds them.
use Rattle.std.specs.Prelude.{◌≡◌, ℕ, zero, suc, List, [], ◌∷◌, Option, refl}
use Rattle.std.specs.Coded.{Coded, code_by, coded×, coded_ℕ, coded_list, coded_option}
use Rattle.slotted_model.specs.Find.{Entry}
use Rattle.slotted_model.specs.ProofList.{Equation, Step, ProofEntry, explicit, reflexive, symmetric, transitive, congruent}
use Rattle.slotted_proofs.specs.Equations.{Statement}
use Rattle.slotted_proofs.specs.Entries.{Proven}

-- maps of slots
abbrev pub pairs_code : Coded (List (ℕ × ℕ))
pairs_code = coded_list (coded× coded_ℕ coded_ℕ)

abbrev pub entry_code : Coded Entry
entry_code =
    code_by (ℕ × (List (ℕ × ℕ) × (ℕ × ℕ))) (coded× coded_ℕ (coded× pairs_code (coded× coded_ℕ coded_ℕ)))
    (λ e. (e.class, (e.pairs, (e.proof, e.died)))) (λ p. record { class = p.0; pairs = p.1.0; proof = p.1.1.0; died = p.1.1.1 }) (λ _. refl)

abbrev pub equation_code : Coded Equation
equation_code =
    code_by (ℕ × (ℕ × List (ℕ × ℕ))) (coded× coded_ℕ (coded× coded_ℕ pairs_code)) (λ e. (e.left, (e.right, e.pairs))) (λ p. record { left = p.0; right = p.1.0; pairs = p.1.1 }) (λ _. refl)

-- a step as its kind with the numbers of its parts
abbrev pub listed_step : Step → ℕ × List ℕ
listed_step explicit = (0, [])
listed_step reflexive = (1, [])
listed_step (symmetric p) = (2, p ∷ [])
listed_step (transitive p q) = (3, p ∷ q ∷ [])
listed_step (congruent ps) = (4, ps)

abbrev pub step_listed : ℕ → List ℕ → Step
step_listed zero ps = explicit
step_listed (suc zero) ps = reflexive
step_listed (suc (suc zero)) [] = explicit
step_listed (suc (suc zero)) (p ∷ ps) = symmetric p
step_listed (suc (suc (suc zero))) [] = explicit
step_listed (suc (suc (suc zero))) (p ∷ []) = explicit
step_listed (suc (suc (suc zero))) (p ∷ q ∷ ps) = transitive p q
step_listed (suc (suc (suc (suc n)))) ps = congruent ps

pub step_listed-back : (s : Step) → step_listed (listed_step s).0 (listed_step s).1 ≡ s
step_listed-back explicit = refl
step_listed-back reflexive = refl
step_listed-back (symmetric p) = refl
step_listed-back (transitive p q) = refl
step_listed-back (congruent ps) = refl

abbrev pub step_code : Coded Step
step_code = code_by (ℕ × List ℕ) (coded× coded_ℕ (coded_list coded_ℕ)) listed_step (λ p. step_listed p.0 p.1) step_listed-back

abbrev pub proof_entry_code : Coded ProofEntry
proof_entry_code = code_by (Equation × Step) (coded× equation_code step_code) (λ e. (e.equation, e.step)) (λ p. record { equation = p.0; step = p.1 }) (λ _. refl)

abbrev pub statement_code : Coded Statement
statement_code =
    code_by (List ℕ × (List ℕ × Equation)) (coded× (coded_list coded_ℕ) (coded× (coded_list coded_ℕ) equation_code))
    (λ s. (s.left_slots, (s.right_slots, s.equation))) (λ p. record { left_slots = p.0; right_slots = p.1.0; equation = p.1.1 }) (λ _. refl)

abbrev pub proven_code : Coded Proven
proven_code =
    code_by (Statement × (Step × Option (List ℕ))) (coded× statement_code (coded× step_code (coded_option (coded_list coded_ℕ))))
    (λ x. (x.statement, (x.step, x.text))) (λ p. record { statement = p.0; step = p.1.0; text = p.1.1 }) (λ _. refl)
