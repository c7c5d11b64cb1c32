-- The nearest word, by the place of the first of the least distances.
use Rattle.std.proofs.Common.{◌≡◌, ℕ, ◌+◌, ◌<◌, ◌≤◌, List, ◌∷◌, ◌++◌, length, map, take, drop, get_or, nat_lt, sym, ap, subst, ◌∙◌, arith}
use Rattle.std.specs.Prelude.{All}
use Rattle.std.specs.List.{IsFirstBest}
use Rattle.std.proofs.lemmas.Bool.{ltb-true, ltb-false}
use Rattle.std.proofs.lemmas.List.{drop_more, get_or_default, get_or-drop, get_or-map, get_or-take, length-drop, length-map, length-take-le, take-append-drop}
use Rattle.slotted_signatures.specs.Nearest.{edits, IsNearest}
use Rattle.slotted_signatures.specs.Usage.{Usage}

module _ (us : List Usage) (w ds : List ℕ) (are : ds ≡ map (λ u. edits w u.word) us) (p : ℕ) (best : IsFirstBest nat_lt ds (length ds) p) where
  count : length ds ≡ length us
  count = ap length are ∙ length-map us (λ u. edits w u.word)

  place : p < length us
  place = omega (arith, count, best.0)

  at : (k : ℕ) (t : Usage) (d : ℕ) → k < length us → get_or ds k d ≡ edits w (get_or us k t).word
  at k t d lt = ap (λ l. get_or l k d) are ∙ get_or-map (λ u. edits w u.word) us k t d lt

  module _ (u : Usage) (is : u ≡ get_or us p u) where
    own : (d : ℕ) → get_or ds p d ≡ edits w u.word
    own d = at p u d place ∙ ap (λ u. edits w u.word) (sym is)

    none-nearer : (k : ℕ) (t : Usage) → k < length us → edits w u.word ≤ edits w (get_or us k t).word
    none-nearer k t lt = omega (arith, own 0, at k t 0 lt, ltb-false (get_or ds k 0) (get_or ds p 0) (best.1 k 0 (omega (arith, count))))

    nearer : (k : ℕ) (t : Usage) → k < p → edits w u.word < edits w (get_or us k t).word
    nearer k t lt = omega (arith, own 0, at k t 0 (omega (arith, place)), ltb-true (get_or ds p 0) (get_or ds k 0) (best.2 k 0 lt))

    -- the word at this place, if it is near
    pub nearest-here : (x : ℕ) → x ≡ get_or ds p x → x ≤ 2 → (v : List ℕ) → v ≡ u.word → IsNearest us w v
    nearest-here x here near v same =
        let distance : edits w u.word ≤ 2 = omega (arith, own x) in
        record {
          before = take p us;
          usage = u;
          after = drop (p + 1) us;
          stands = sym (take-append-drop p us) ∙ ap (λ l. take p us ++ l) (drop_more us p u place ∙ ap (λ x. x ∷ drop (p + 1) us) (sym is));
          word = same;
          near = subst (λ v. edits w v ≤ 2) (sym same) distance;
          first = λ k t lt.
              let le : k < p = omega (arith, length-take-le p us (omega (arith, place))) in
              subst (λ (q : List ℕ × Usage). edits w q.0 < edits w q.1.word) (λ i. (sym same i, sym (get_or-take p us k t le) i)) (nearer k t le);
          least = λ k t lt. subst (λ (q : List ℕ × Usage). edits w q.0 ≤ edits w q.1.word) (λ i. (sym same i, sym (get_or-drop (p + 1) us k t) i)) (none-nearer (p + 1 + k) t (omega (arith, length-drop (p + 1) us)));
        }

  -- no word is near if that at this place is not
  pub none-near : (x : ℕ) → x ≡ get_or ds p x → 2 < x → All (λ t. 2 < edits w t.word) us
  none-near x here far k t lt =
      let is = get_or_default us p t (get_or us p t) place in
      omega (arith, own (get_or us p t) is x, none-nearer (get_or us p t) is k t lt)
