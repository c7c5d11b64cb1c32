-- Numbers below a count that wait, in the order in which they came, each once.
--     Waiting            the count, and those that wait, the first one first
--     HasFlags flags q   the flags tell which numbers stand in the queue, which has each once
--     Pushes v w i       i waits from v to w: it waited, and nothing changed, or it is the last one now
use Rattle.std.specs.Prelude.{◌≡◌, ◌⊎◌, ◌↔◌, ℕ, suc, List, [], ◌∷◌, ◌++◌, Bool, false, Contains, IsTrue, slice_index_or, refl}
use Rattle.std.specs.Coded.{Coded, code_by, coded×, coded_ℕ, coded_list}
use Rattle.slotted_model.specs.Correspondence.{AllDifferent}

pub record Waiting : Type 0 where
  pub count : ℕ
  pub queue : List ℕ

abbrev pub waiting_code : Coded Waiting
waiting_code = code_by (ℕ × List ℕ) (coded× coded_ℕ (coded_list coded_ℕ)) (λ w. (w.count, w.queue)) (λ p. record { count = p.0; queue = p.1 }) (λ _. refl)

abbrev pub nobody : Waiting
nobody = record { count = 0; queue = [] }

-- there is one number more, which does not wait
abbrev pub with_one_more : Waiting → Waiting
with_one_more w = record { count = suc w.count; queue = w.queue }

-- others wait
abbrev pub with_queue : Waiting → List ℕ → Waiting
with_queue w q = record { count = w.count; queue = q }

pub record HasFlags (flags : List Bool) (q : List ℕ) : Type 0 where
  pub once : AllDifferent q
  pub tells : (i : ℕ) → IsTrue (slice_index_or flags i false) ↔ Contains q i

abbrev pub Pushes : Waiting → Waiting → ℕ → Type 0
Pushes v w i = (Contains v.queue i × (w ≡ v)) ⊎ ((¬ Contains v.queue i) × (w ≡ with_queue v (v.queue ++ i ∷ [])))

-- i was the first, and waits no more
abbrev pub Pops : Waiting → Waiting → ℕ → Type 0
Pops v w i = (v.queue ≡ i ∷ w.queue) × (w.count ≡ v.count)
