-- The heights of the data of live classes, with other data and other entries.
use Rattle.std.proofs.Common.{◌≡◌, ◌≢◌, ℕ, zero, suc, ◌+◌, ◌<◌, List, [], ◌∷◌, length, set, cond, sym, ap, refl, arith}
use Rattle.std.specs.Prelude.{nat_eq}
use Rattle.std.proofs.lemmas.Bool.{eq-eqb, ne_eqb}
use Rattle.slotted_model.specs.Find.{Entry, entry_at}
use Rattle.slotted_model_analyses.specs.Analysis.{Analysis}
use Rattle.slotted_model_analyses.specs.DataPart.{with_data, heights_from}

module _ {D : Type 0} where
  pub with_data-here : (δ : ℕ → D) (c : ℕ) (v : D) → with_data δ c v c ≡ v
  with_data-here δ c v = ap (λ b. cond b v (δ c)) (eq-eqb c c refl)

  pub with_data-other : (δ : ℕ → D) (c : ℕ) (v : D) (i : ℕ) → i ≢ c → with_data δ c v i ≡ δ i
  with_data-other δ c v i n = ap (λ b. cond b v (δ i)) (ne_eqb i c n)

module _ {D : Type 0} (a : Analysis D) where
  -- the height of a live class
  abbrev pub height_at : (ℕ → D) → ℕ → Entry → ℕ
  height_at δ i e = cond (nat_eq e.class i) (a.height (δ i)) 0

  pub height-live : (δ : ℕ → D) (i : ℕ) (e : Entry) → e.class ≡ i → height_at δ i e ≡ a.height (δ i)
  height-live δ i e p = ap (λ b. cond b (a.height (δ i)) 0) (eq-eqb e.class i p)

  pub height-dead : (δ : ℕ → D) (i : ℕ) (e : Entry) → e.class ≢ i → height_at δ i e ≡ 0
  height-dead δ i e n = ap (λ b. cond b (a.height (δ i)) 0) (ne_eqb e.class i n)

  -- with another entry
  pub heights-set : (δ : ℕ → D) (i k j : ℕ) (found : List Entry) (x : Entry) → k < length found → j ≡ i + k →
      heights_from a δ i (set found k x) + height_at δ j (entry_at found k) ≡ heights_from a δ i found + height_at δ j x
  heights-set δ i k j [] x h e = absurd (omega arith)
  heights-set δ i zero j (y ∷ found) x h e =
      let same : j ≡ i = omega arith in
      let p : height_at δ i y ≡ height_at δ j y = ap (λ n. height_at δ n y) (sym same) in
      let q : height_at δ i x ≡ height_at δ j x = ap (λ n. height_at δ n x) (sym same) in
      omega arith
  heights-set δ i (suc k) j (y ∷ found) x h e =
      let r : heights_from a δ (suc i) (set found k x) + height_at δ j (entry_at found k) ≡ heights_from a δ (suc i) found + height_at δ j x =
      heights-set δ (suc i) k j found x (omega arith) (omega arith) in
      omega arith

  -- with other data of a class before the first entry
  pub heights-before : (δ : ℕ → D) (c : ℕ) (v : D) (i : ℕ) (found : List Entry) → c < i → heights_from a (with_data δ c v) i found ≡ heights_from a δ i found
  heights-before δ c v i [] l = refl
  heights-before δ c v i (e ∷ found) l =
      let p : height_at (with_data δ c v) i e ≡ height_at δ i e = ap (λ x. cond (nat_eq e.class i) (a.height x) 0) (with_data-other δ c v i (λ q. omega arith)) in
      let r : heights_from a (with_data δ c v) (suc i) found ≡ heights_from a δ (suc i) found = heights-before δ c v (suc i) found (omega arith) in
      λ j. p j + r j

  -- and of one of the entries
  pub heights-with : (δ : ℕ → D) (c : ℕ) (v : D) (i k : ℕ) (found : List Entry) → k < length found → c ≡ i + k →
      heights_from a (with_data δ c v) i found + height_at δ c (entry_at found k) ≡ heights_from a δ i found + height_at (with_data δ c v) c (entry_at found k)
  heights-with δ c v i k [] h e = absurd (omega arith)
  heights-with δ c v i zero (y ∷ found) h e =
      let same : c ≡ i = omega arith in
      let p : height_at δ i y ≡ height_at δ c y = ap (λ n. height_at δ n y) (sym same) in
      let q : height_at (with_data δ c v) i y ≡ height_at (with_data δ c v) c y = ap (λ n. height_at (with_data δ c v) n y) (sym same) in
      let r : heights_from a (with_data δ c v) (suc i) found ≡ heights_from a δ (suc i) found = heights-before δ c v (suc i) found (omega arith) in
      omega arith
  heights-with δ c v i (suc k) (y ∷ found) h e =
      let p : height_at (with_data δ c v) i y ≡ height_at δ i y = ap (λ x. cond (nat_eq y.class i) (a.height x) 0) (with_data-other δ c v i (λ q. omega arith)) in
      let r : heights_from a (with_data δ c v) (suc i) found + height_at δ c (entry_at found k) ≡ heights_from a δ (suc i) found + height_at (with_data δ c v) c (entry_at found k) =
      heights-with δ c v (suc i) k found (omega arith) (omega arith) in
      omega arith
