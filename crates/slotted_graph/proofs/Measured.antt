-- How far a graph is, as contracts see it and as what is kept has it.
use Rattle.std.proofs.Common.{◌≡◌, ◌≤◌, ◌<◌, ◌+◌, ◌∙◌, ℕ, zero, suc, List, [], ◌∷◌, true, false, cond, length, get_or, ap, refl, subst, sym, inl, inr, arith}
use Rattle.std.specs.Prelude.{Bool, nat_eq}
use Rattle.std.specs.List.{filter, range_with_len, sum_by}
use Rattle.std.proofs.lemmas.Bool.{cases_Bool, eqb-true}
use Rattle.std.proofs.lemmas.List.Sums.{sum_by-cons}
use Rattle.slotted_nodes.specs.Form.{counted}
use Rattle.slotted_model.specs.Applied.{Applied, values}
use Rattle.slotted_model.specs.Find.{Entry, entry_at, find_map}
use Rattle.slotted_model.specs.Rest.{lives_from, slots_from}
use Rattle.slotted_model.proofs.Finds.Finding.{find_map-live, leads}
use Rattle.slotted_classes.specs.Kept.{Kept, entries_of, no_entry, nodes_of}
use Rattle.slotted_classes.proofs.KeptLists.{length-entries_of, length-mapped, length-nodes_of}
use Rattle.slotted_lookup.specs.Reports.{live_ids, lives}
use Rattle.slotted_reports.specs.declared.measure.ProgressMeasure.{ProgressMeasure}
use Rattle.slotted_reports.specs.Measure.{entry_slots, live_slots}
use Rattle.slotted_operations.specs.Good.{Good, NeverMore, image_of}
use Rattle.slotted_operations.specs.Image.{Image}
use Rattle.slotted_operations.specs.Reports.{live_classes}
use Rattle.slotted_operations.specs.ValidIds.{slots_left}
use Rattle.slotted_operations.proofs.Graphs.Finds.{good-finds}
use Rattle.slotted_operations.proofs.Graphs.Images.{found-at}
use Rattle.slotted_operations.proofs.Graphs.Reports.{class_count-is, live_ids-are}
use Rattle.slotted_graph.specs.Measure.{IsProgress, NeverRises, slots_of_live}

-- sums agree where what is summed does
sums-agree : (f g : ℕ → ℕ) (test : ℕ → Bool) (s n : ℕ) → ((i : ℕ) → s ≤ i → i < s + n → test i ≡ true → f i ≡ g i) →
    sum_by f (filter test (range_with_len s n)) ≡ sum_by g (filter test (range_with_len s n))
sums-agree f g test s zero same = refl
sums-agree f g test s (suc n) same =
    let rest = filter test (range_with_len (s + 1) n) in
    let later : sum_by f rest ≡ sum_by g rest = sums-agree f g test (s + 1) n (λ i l h. same i (omega arith) (omega arith)) in
    elim (cases_Bool (test s)) [
      | inl y ↦
          let here : f s ≡ g s = same s (omega arith) (omega arith) y in
          let both : sum_by f (s ∷ rest) ≡ sum_by g (s ∷ rest) = omega (arith, sum_by-cons f s rest, sum_by-cons g s rest, here, later) in
          ap (λ b. sum_by f (cond b (s ∷ rest) rest)) y ∙ (both ∙ ap (λ b. sum_by g (cond b (s ∷ rest) rest)) (sym y))
      | inr n ↦ ap (λ b. sum_by f (cond b (s ∷ rest) rest)) n ∙ (later ∙ ap (λ b. sum_by g (cond b (s ∷ rest) rest)) (sym n))
    ]

-- the entry of a live class has the slots that the class has left
module _ (k : Kept) (good : Good k) where
  left-are : (i : ℕ) → i < length k.classes → lives (entries_of k) i ≡ true → entry_slots k i ≡ length (slots_left (image_of k) i)
  left-are i l y =
      let nodes = nodes_of k in
      let found = entries_of k in
      let live = eqb-true (entry_at found i).class i y in
      let map : find_map found i ≡ (entry_at found i).pairs = find_map-live nodes found (leads nodes found (good-finds k good).linked) i (omega (arith, l, length-nodes_of k)) live in
      sym (ap (λ (b : Applied). length (values b.1)) (found-at k i l) ∙ (length-mapped (λ (p : ℕ × ℕ). p.1) (find_map found i) ∙ ap (λ (m : List (ℕ × ℕ)). length m) map))

  slots-are : live_slots k ≡ slots_of_live (image_of k)
  slots-are =
      sums-agree (entry_slots k) (λ c. length (slots_left (image_of k) c)) (lives (entries_of k)) 0 (length k.classes) (λ i s l y. left-are i (omega (arith, l)) y)
      ∙ ap (sum_by (λ c. length (slots_left (image_of k) c))) (live_ids-are k good)

  pub progress-is : (g : Image) → image_of k ≡ g → (m : ProgressMeasure) → m.number_of_classes ≡ length k.classes → m.number_of_live_classes ≡ length (live_ids k) →
      m.sum_of_slots ≡ counted (live_slots k) → m.sum_of_symmetries ≡ length (live_ids k) → IsProgress g m
  progress-is g image m classes live slots symmetries =
      let lives_are : length (live_ids k) ≡ length (live_classes g) = ap length (live_ids-are k good) ∙ ap (λ (x : Image). length (live_classes x)) image in
      record {
        classes = classes ∙ class_count-is k g image;
        live = live ∙ lives_are;
        slots = slots ∙ (ap counted slots-are ∙ ap (λ (x : Image). counted (slots_of_live x)) image);
        symmetries = symmetries ∙ lives_are;
      }

-- counted from the number i on, by the classes that find themselves and by their entries
module _ (found : List Entry) where
  -- the entries of es are those from i on
  abbrev AreFrom : ℕ → List Entry → Type 0
  AreFrom i es = (j : ℕ) → j < length es → entry_at found (i + j) ≡ get_or es j no_entry

  first-of : (i : ℕ) (e : Entry) (es : List Entry) → AreFrom i (e ∷ es) → entry_at found i ≡ e
  first-of i e es from = let z : i + 0 ≡ i = omega arith in subst (λ n. entry_at found n ≡ e) z (from 0 (omega arith))

  later-of : (i : ℕ) (e : Entry) (es : List Entry) → AreFrom i (e ∷ es) → AreFrom (suc i) es
  later-of i e es from j l = let q : i + suc j ≡ suc i + j = omega arith in subst (λ n. entry_at found n ≡ get_or es j no_entry) q (from (suc j) (omega arith))

  lives-counted : (i : ℕ) (es : List Entry) → AreFrom i es → length (filter (lives found) (range_with_len i (length es))) ≡ lives_from i es
  lives-counted i [] from = refl
  lives-counted i (e ∷ es) from =
      let next : suc i ≡ i + 1 = omega arith in
      let rest = filter (lives found) (range_with_len (i + 1) (length es)) in
      let later : length rest ≡ lives_from (suc i) es = subst (λ n. length (filter (lives found) (range_with_len n (length es))) ≡ lives_from (suc i) es) next (lives-counted (suc i) es (later-of i e es from)) in
      let here : entry_at found i ≡ e = first-of i e es from in
      elim (cases_Bool (nat_eq e.class i)) [
        | inl y ↦
            let z : lives found i ≡ true = ap (λ (x : Entry). nat_eq x.class i) here ∙ y in
            let both : suc (length rest) ≡ 1 + lives_from (suc i) es = omega (arith, later) in
            ap (λ b. length (cond b (i ∷ rest) rest)) z ∙ (both ∙ ap (λ b. cond b 1 0 + lives_from (suc i) es) (sym y))
        | inr n ↦
            let z : lives found i ≡ false = ap (λ (x : Entry). nat_eq x.class i) here ∙ n in
            let both : length rest ≡ 0 + lives_from (suc i) es = omega (arith, later) in
            ap (λ b. length (cond b (i ∷ rest) rest)) z ∙ (both ∙ ap (λ b. cond b 1 0 + lives_from (suc i) es) (sym n))
      ]

  slots-counted : (i : ℕ) (es : List Entry) → AreFrom i es → sum_by (λ c. length (entry_at found c).pairs) (filter (lives found) (range_with_len i (length es))) ≡ slots_from i es
  slots-counted i [] from = refl
  slots-counted i (e ∷ es) from =
      let f : ℕ → ℕ = λ c. length (entry_at found c).pairs in
      let next : suc i ≡ i + 1 = omega arith in
      let rest = filter (lives found) (range_with_len (i + 1) (length es)) in
      let later : sum_by f rest ≡ slots_from (suc i) es = subst (λ n. sum_by f (filter (lives found) (range_with_len n (length es))) ≡ slots_from (suc i) es) next (slots-counted (suc i) es (later-of i e es from)) in
      let here : entry_at found i ≡ e = first-of i e es from in
      let own : f i ≡ length e.pairs = ap (λ (x : Entry). length x.pairs) here in
      elim (cases_Bool (nat_eq e.class i)) [
        | inl y ↦
            let z : lives found i ≡ true = ap (λ (x : Entry). nat_eq x.class i) here ∙ y in
            let both : sum_by f (i ∷ rest) ≡ length e.pairs + slots_from (suc i) es = omega (arith, sum_by-cons f i rest, own, later) in
            ap (λ b. sum_by f (cond b (i ∷ rest) rest)) z ∙ (both ∙ ap (λ b. cond b (length e.pairs) 0 + slots_from (suc i) es) (sym y))
        | inr n ↦
            let z : lives found i ≡ false = ap (λ (x : Entry). nat_eq x.class i) here ∙ n in
            let both : sum_by f rest ≡ 0 + slots_from (suc i) es = omega (arith, later) in
            ap (λ b. sum_by f (cond b (i ∷ rest) rest)) z ∙ (both ∙ ap (λ b. cond b (length e.pairs) 0 + slots_from (suc i) es) (sym n))
      ]

  itself : AreFrom 0 found
  itself j l = let z : j ≡ 0 + j = omega arith in subst (λ n. entry_at found n ≡ get_or found j no_entry) z refl

module _ (k : Kept) (good : Good k) where
  same_count : length (entries_of k) ≡ length k.classes
  same_count = length-entries_of k

  live-count : length (live_classes (image_of k)) ≡ lives_from 0 (entries_of k)
  live-count =
      sym (ap length (live_ids-are k good))
      ∙ (ap (λ n. length (filter (lives (entries_of k)) (range_with_len 0 n))) (sym same_count) ∙ lives-counted (entries_of k) 0 (entries_of k) (itself (entries_of k)))

  slot-count : slots_of_live (image_of k) ≡ slots_from 0 (entries_of k)
  slot-count =
      sym (slots-are k good)
      ∙ (ap (λ n. sum_by (entry_slots k) (filter (lives (entries_of k)) (range_with_len 0 n))) (sym same_count) ∙ slots-counted (entries_of k) 0 (entries_of k) (itself (entries_of k)))

-- what never rises in what is kept never rises as contracts see it
pub never-rises : (k l : Kept) → Good k → Good l → nodes_of l ≡ nodes_of k → NeverMore k l → (g h : Image) → image_of k ≡ g → image_of l ≡ h → NeverRises g h
never-rises k l good_k good_l nodes never g h eg eh =
    let lk = live-count k good_k in
    let ll = live-count l good_l in
    let sk = slot-count k good_k in
    let sl = slot-count l good_l in
    let here : NeverRises (image_of k) (image_of l) = record {
      classes = ap length nodes;
      live = omega (arith, lk, ll, never.live);
      slots = λ same.
          let fewer : slots_from 0 (entries_of l) ≤ slots_from 0 (entries_of k) = never.slots (sym ll ∙ (same ∙ lk)) in
          omega (arith, sk, sl, fewer);
    } in
    subst (λ (x : Image). NeverRises x h) eg (subst (NeverRises (image_of k)) eh here)
