-- The machine's goals beside the matcher's: the same patterns, each at a place of the registers where its id stands.
use Rattle.std.proofs.Common.{◌≡◌, ℕ, suc, ◌+◌, ◌<◌, ◌≤◌, List, [], ◌∷◌, ◌++◌, length, length-append, map, true, sym, ◌∙◌, ap, refl, subst, arith, append_assoc}
use Rattle.std.specs.Prelude.{slice_index, slice_index_or}
use Rattle.std.specs.List.{zip}
use Rattle.std.proofs.lemmas.Bool.{and_parts, false≢true}
use Rattle.std.proofs.lemmas.List.{length_push}
use Rattle.std.proofs.lemmas.Simd.{map-map}
use Rattle.std.proofs.Math.ListN.{get_or-append}
use Rattle.std.proofs.Math.Seq.{get_or-append_seam}
use Rattle.slotted_lists.proofs.Members.{In, In-map, In-of_map}
use Rattle.slotted_lists.proofs.Maps.{values-with_values}
use Rattle.slotted_model.specs.Applied.{Applied, values, renamed_id}
use Rattle.slotted_model.specs.State.{Row, State}
use Rattle.slotted_model_rules.specs.Patterns.{Pattern, PatternArgs, no_argument, own_name, child_pattern, binding}
use Rattle.slotted_model_rules.specs.Matcher.{NodeArgs, no_more, a_name, an_id, a_binder}
use Rattle.slotted_model_rules.specs.Goals.{goals_of, outlines_agree}
use Rattle.slotted_match_machine.specs.declared.index.IndexChild.{IndexChild}
use Rattle.slotted_match_machine.specs.declared.index.IndexRow.{IndexRow}
use Rattle.slotted_match_machine.specs.declared.program.Source.{Source}
use Rattle.slotted_match_machine.specs.Index.{OneByOne, ids_of, IsIndexChild}
use Rattle.slotted_match_machine.specs.Machine.{Occurrence, no_occurrence, new_names, named, child_occurrence}
use Rattle.slotted_match_machine.specs.Programs.{child_patterns, placed}
use Rattle.slotted_match_machine.proofs.Lists.{one_by_one-map, one_by_one-weaker, zip-append}
use Rattle.slotted_match_machine.proofs.NamedNodes.{ids-with, ids-written}
use Rattle.slotted_match_machine.proofs.NormalNodes.{ids-normal}
use Rattle.slotted_match_machine.proofs.Occurrences.{IsOccurrenceOf}
use Rattle.slotted_match_machine.proofs.VisitedRows.{Visit, names, name, node, node-visited, name-below}

-- what stands at a place
abbrev pub standing_at : List (List Occurrence) → Source → Occurrence
standing_at registers from = slice_index_or (slice_index_or registers from.register []) from.child no_occurrence

-- the numbers of an occurrence are below the count
abbrev pub IsBelow : ℕ → Occurrence → Type 0
IsBelow count o = (z : ℕ) → In z o.names → z < count

-- a goal of the machine's beside one of the matcher's
pub record IsAt (g : State) (f : ℕ → ℕ) (registers : List (List Occurrence)) (count : ℕ) (q : Pattern × Source) (p : Pattern × Applied) : Type 0 where
  pub pattern : q.0 ≡ p.0
  pub register : q.1.register < length registers
  pub occurrence : IsOccurrenceOf g f p.1 (standing_at registers q.1)
  pub below : IsBelow count (standing_at registers q.1)

-- the goals that a node makes are its child patterns beside its ids
pub goals-beside : (args : PatternArgs) (n : NodeArgs) → outlines_agree args n ≡ true → (length (child_patterns args) ≡ length (ids_of n)) × (goals_of args n ≡ zip (child_patterns args) (ids_of n))
goals-beside no_argument no_more e = (refl, refl)
goals-beside (own_name x rest) (a_name y n) e = goals-beside rest n e
goals-beside (child_pattern p rest) (an_id a n) e = let r = goals-beside rest n e in (ap suc r.0, ap (λ l. (p, a) ∷ l) r.1)
goals-beside (binding x inner rest) (a_binder y m n) e =
    let k = and_parts (outlines_agree inner m) (outlines_agree rest n) e in
    let q = goals-beside inner m k.0 in
    let r = goals-beside rest n k.1 in (
      length-append (child_patterns inner) (child_patterns rest) ∙ ((λ i. q.0 i + r.0 i) ∙ sym (length-append (ids_of m) (ids_of n))),
      (λ i. q.1 i ++ r.1 i) ∙ sym (zip-append (child_patterns inner) (child_patterns rest) (ids_of m) (ids_of n) q.0),
    )
goals-beside _ _ e = absurd (false≢true e)

module _ (g : State) (f : ℕ → ℕ) where
  -- patterns at a register that holds occurrences of these ids from the child k on
  placed-at : (registers : List (List Occurrence)) (count register : ℕ) → register < length registers → (ps : List Pattern) (ids : List Applied) (before occurrences : List Occurrence) (k : ℕ) → k ≡ length before →
      slice_index_or registers register [] ≡ before ++ occurrences → length ps ≡ length ids → OneByOne (λ a o. IsOccurrenceOf g f a o × IsBelow count o) ids occurrences →
      OneByOne (IsAt g f registers count) (placed register k ps) (zip ps ids)
  placed-at registers count register h [] [] before occurrences k at is l o = tt
  placed-at registers count register h [] (a ∷ ids) before occurrences k at is l o = absurd (omega arith)
  placed-at registers count register h (p ∷ ps) [] before occurrences k at is l o = absurd (omega arith)
  placed-at registers count register h (p ∷ ps) (a ∷ ids) before [] k at is l o = absurd o
  placed-at registers count register h (p ∷ ps) (a ∷ ids) before (c ∷ occurrences) k at is l o =
      let here : standing_at registers (record { register = register; child = k }) ≡ c =
      (λ i. slice_index_or (is i) (at i) no_occurrence) ∙ get_or-append_seam before c occurrences no_occurrence in (
        record {
          pattern = refl;
          register = h;
          occurrence = subst (IsOccurrenceOf g f a) (sym here) o.0.0;
          below = subst (IsBelow count) (sym here) o.0.1;
        },
        placed-at registers count register h ps ids (before ++ c ∷ []) occurrences (suc k) (ap suc at ∙ sym (length_push before c ∙ omega arith)) (is ∙ sym (append_assoc before (c ∷ []) occurrences)) (omega arith) o.1,
      )

  -- the child patterns of a node at a new register
  pub placed-last : (registers : List (List Occurrence)) (occurrences : List Occurrence) (count register : ℕ) → length registers ≡ register → (args : PatternArgs) (n : NodeArgs) → outlines_agree args n ≡ true →
      OneByOne (λ a o. IsOccurrenceOf g f a o × IsBelow count o) (ids_of n) occurrences →
      OneByOne (IsAt g f (registers ++ occurrences ∷ []) count) (placed register 0 (child_patterns args)) (goals_of args n)
  placed-last registers occurrences count register e args n agree o =
      let b = goals-beside args n agree in
      let last : slice_index_or (registers ++ occurrences ∷ []) register [] ≡ occurrences = ap (λ k. slice_index_or (registers ++ occurrences ∷ []) k []) (sym e) ∙ get_or-append_seam registers occurrences [] [] in
      let h : register < length (registers ++ occurrences ∷ []) = let p : length (registers ++ occurrences ∷ []) ≡ length registers + 1 = length_push registers occurrences in omega arith in
      subst (OneByOne (IsAt g f (registers ++ occurrences ∷ []) count) (placed register 0 (child_patterns args))) (sym b.1)
      (placed-at (registers ++ occurrences ∷ []) count register h (child_patterns args) (ids_of n) [] occurrences 0 refl last b.0 o)

  -- a goal stays where it is when a register is added, and names
  later-at : (registers : List (List Occurrence)) (more : List Occurrence) (count new : ℕ) → count ≤ new → (q : Pattern × Source) (p : Pattern × Applied) → IsAt g f registers count q p → IsAt g f (registers ++ more ∷ []) new q p
  later-at registers more count new u q p is =
      let h : q.1.register < length registers = is.register in
      let same : standing_at (registers ++ more ∷ []) q.1 ≡ standing_at registers q.1 = ap (λ l. slice_index_or l q.1.child no_occurrence) (get_or-append registers (more ∷ []) [] q.1.register h) in
      record {
        pattern = is.pattern;
        register = let e : length (registers ++ more ∷ []) ≡ length registers + 1 = length_push registers more in omega arith;
        occurrence = subst (IsOccurrenceOf g f p.1) (sym same) is.occurrence;
        below = subst (IsBelow new) (sym same) (λ z i. let l : z < count = is.below z i in omega arith);
      }

  pub goals-later : (registers : List (List Occurrence)) (more : List Occurrence) (count new : ℕ) → count ≤ new → (qs : List (Pattern × Source)) (ps : List (Pattern × Applied)) →
      OneByOne (IsAt g f registers count) qs ps → OneByOne (IsAt g f (registers ++ more ∷ []) new) qs ps
  goals-later registers more count new u qs ps o = one_by_one-weaker (IsAt g f registers count) (IsAt g f (registers ++ more ∷ []) new) qs ps (later-at registers more count new u) o

-- the children of a row that was entered are occurrences of the ids of its node
module _ (g : State) (f : ℕ → ℕ) (r : Row) (row : IndexRow) (a : Applied) (o : Occurrence) (count : ℕ) (seen : List ℕ) (v : Visit g f r row a o count seen) where
  abbrev N : List ℕ
  N = names g f r row a o count seen v

  abbrev top : ℕ
  top = count + new_names row.slots.items

  one-child : (b : Applied) (c : IndexChild) → In b (ids_of v.is_row.node) → IsIndexChild b c → IsOccurrenceOf g f (renamed_id (name g f r row a o count seen v) b) (child_occurrence N c) × IsBelow top (child_occurrence N c)
  one-child b c i is =
      let φ : ℕ → ℕ = name g f r row a o count seen v in
      let n : NodeArgs = node g f r row a o count seen v in
      let there : In (renamed_id φ b) (ids_of n) = subst (In (renamed_id φ b)) (sym (ids-with φ v.is_row.node)) (In-map (renamed_id φ) (ids_of v.is_row.node) b i) in
      let normal = ids-normal g v.rest seen r a n (node-visited g f r row a o count seen v) (renamed_id φ b) there in (
        record {
          valid = normal.0;
          found = normal.1;
          class = sym is.class;
          names = values-with_values φ b.1 ∙ (sym (map-map f (slice_index N) (values b.1)) ∙ ap (λ xs. map f (named N xs)) (sym is.numbers));
        },
        λ z j.
            let m : (w : ℕ) × In w (values b.1) × (z ≡ slice_index N w) = In-of_map (slice_index N) (values b.1) z (subst (λ xs. In z (named N xs)) is.numbers j) in
            subst (λ y. y < top) (sym m.2) (name-below g f r row a o count seen v m.0 (ids-written v.is_row.node b i m.0 m.1)),
      )

  pub children-at : OneByOne (λ b c. IsOccurrenceOf g f b c × IsBelow top c) (ids_of (node g f r row a o count seen v)) (map (child_occurrence N) row.children.items)
  children-at =
      subst (λ ids. OneByOne (λ b c. IsOccurrenceOf g f b c × IsBelow top c) ids (map (child_occurrence N) row.children.items)) (sym (ids-with (name g f r row a o count seen v) v.is_row.node))
      (one_by_one-map IsIndexChild (λ b c. IsOccurrenceOf g f b c × IsBelow top c) (renamed_id (name g f r row a o count seen v)) (child_occurrence N) (ids_of v.is_row.node) row.children.items one-child v.is_row.children)
