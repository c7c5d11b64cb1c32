-- Substitutions that read all answers of the machine are what a search finds.
use Rattle.std.proofs.Common.{◌≡◌, ℕ, ◌<◌, List, [], ◌∷◌, length, map, Some, sym, ◌∙◌, ap, refl, subst, inl, inr}
use Rattle.std.specs.Prelude.{Contains, slice_index_or}
use Rattle.std.specs.List.{zip, flat_map}
use Rattle.std.proofs.lemmas.List.{get_or_default}
use Rattle.std.proofs.lemmas.List.Elements.{Contains-get_or}
use Rattle.slotted_lists.proofs.Members.{In, In-left, In-right, In-map, In-of_map, In-Contains, Contains-In}
use Rattle.slotted_lists.proofs.Options.{Some-same}
use Rattle.slotted_theory.specs.FiniteMaps.{with_values}
use Rattle.slotted_theory.specs.Renaming.{IsInjective}
use Rattle.slotted_theory.proofs.Bijections.{to-injective}
use Rattle.slotted_model.specs.Applied.{Applied, renamed_id}
use Rattle.slotted_model.specs.Find.{IsLive, used_slots, find}
use Rattle.slotted_model.specs.State.{Row, State}
use Rattle.slotted_model.specs.Rest.{AtRest}
use Rattle.slotted_model.proofs.Correspondences.Matching.{Takes, IsOneToOne, takes_pairs}
use Rattle.slotted_model.proofs.Finds.NormalIds.{found-renamed}
use Rattle.slotted_model_rules.specs.Conditions.{Values}
use Rattle.slotted_model_rules.specs.Patterns.{Pattern}
use Rattle.slotted_model_rules.specs.Matcher.{MatchState, value_at, Reads}
use Rattle.slotted_model_rules.specs.Rules.{valued, IsMatch, IsRead, Searches}
use Rattle.slotted_match_machine.specs.declared.index.RowIndex.{RowIndex}
use Rattle.slotted_match_machine.specs.declared.program.Step.{Step}
use Rattle.slotted_match_machine.specs.Index.{OneByOne, IsIndexOf, IsOutlineIn}
use Rattle.slotted_match_machine.specs.Machine.{Occurrence, no_occurrence, Answer, answers_at, all_answers}
use Rattle.slotted_match_machine.specs.Programs.{IsProgram}
use Rattle.slotted_match_machine.specs.Readings.{name_at, read_id, IsReadAs, names_of, ReadsAnswer}
use Rattle.slotted_match_machine.proofs.Lists.{beside-left, beside-right, In-flat_map, In-of_flat_map}
use Rattle.slotted_match_machine.proofs.Starting.{f-injective, class-answers}

-- an answer that is read is a reading of the matcher's state
module _ (g : State) (f : ℕ → ℕ) (inj : IsInjective f) (variables : List (List ℕ)) (out : MatchState) (x : Answer) (s : Values) (is : IsReadAs g f variables out x) (reads : ReadsAnswer g variables s x) where
  abbrev pub N : List ℕ
  N = names_of x

  abbrev pub both_names : List (ℕ × ℕ)
  both_names = map (λ n. (f n, reads.name n)) N

  one-to-one : IsOneToOne both_names
  one-to-one = record { forward = forward; backward = backward }
    where
      forward : (u y u' y' : ℕ) → Contains both_names (u, y) → Contains both_names (u', y') → u ≡ u' → y ≡ y'
      forward u y u' y' c d e =
          let p = In-of_map (λ n. (f n, reads.name n)) N (u, y) (In-Contains both_names (u, y) c) in
          let q = In-of_map (λ n. (f n, reads.name n)) N (u', y') (In-Contains both_names (u', y') d) in
          let same : p.0 ≡ q.0 = inj p.0 q.0 (sym (ap (λ (k : ℕ × ℕ). k.0) p.2) ∙ (e ∙ ap (λ (k : ℕ × ℕ). k.0) q.2)) in
          ap (λ (k : ℕ × ℕ). k.1) p.2 ∙ (ap reads.name same ∙ sym (ap (λ (k : ℕ × ℕ). k.1) q.2))

      backward : (u y u' y' : ℕ) → Contains both_names (u, y) → Contains both_names (u', y') → y ≡ y' → u ≡ u'
      backward u y u' y' c d e =
          let p = In-of_map (λ n. (f n, reads.name n)) N (u, y) (In-Contains both_names (u, y) c) in
          let q = In-of_map (λ n. (f n, reads.name n)) N (u', y') (In-Contains both_names (u', y') d) in
          let same : p.0 ≡ q.0 = reads.injective p.0 q.0 (Contains-In N p.0 p.1) (Contains-In N q.0 q.1) (sym (ap (λ (k : ℕ × ℕ). k.1) p.2) ∙ (e ∙ ap (λ (k : ℕ × ℕ). k.1) q.2)) in
          ap (λ (k : ℕ × ℕ). k.0) p.2 ∙ (ap f same ∙ sym (ap (λ (k : ℕ × ℕ). k.0) q.2))

  pub taken : Takes both_names
  taken = takes_pairs both_names one-to-one

  abbrev pub to : ℕ → ℕ
  to = taken.bijection.to

  to-name : (n : ℕ) → In n N → to (f n) ≡ reads.name n
  to-name n i = taken.takes (f n) (reads.name n) (Contains-In both_names (f n, reads.name n) (In-map (λ m. (f m, reads.name m)) N n i))

  renamed-zip : (S ns : List ℕ) → ((n : ℕ) → In n ns → In n N) → with_values to (zip S (map f ns)) ≡ zip S (map reads.name ns)
  renamed-zip [] ns h = refl
  renamed-zip (t ∷ S) [] h = refl
  renamed-zip (t ∷ S) (n ∷ ns) h = λ i. (t, to-name n (h n (inl refl)) i) ∷ renamed-zip S ns (λ m j. h m (inr j)) i

  value-names : (k : ℕ) → k < length variables → (n : ℕ) → In n (slice_index_or x.values k no_occurrence).names → In n N
  value-names k h n i =
      let o : Occurrence = slice_index_or x.values k no_occurrence in
      let there : In o x.values = In-Contains x.values o (Contains-get_or x.values k no_occurrence (subst (λ m. k < m) (sym is.count) h)) in
      In-right n (map (λ (p : ℕ × ℕ). p.0) x.pairs) (flat_map (λ (q : Occurrence). q.names) x.values) (In-flat_map (λ (q : Occurrence). q.names) x.values o n there i)

  pub state-read : Reads g to (valued s) out
  state-read = record { injective = to-injective taken.bijection; slots = slots; values_read = values }
    where
      slots : (y t : ℕ) → Contains out.pairs (y, t) → to y ≡ t
      slots y t c =
          let m : (p : ℕ × ℕ) × In p x.pairs × ((y, t) ≡ (f p.0, p.1)) = In-of_map (λ (p : ℕ × ℕ). (f p.0, p.1)) x.pairs (y, t) (subst (In (y, t)) is.pairs (In-Contains out.pairs (y, t) c)) in
          let n : In m.0.0 N = In-left m.0.0 (map (λ (p : ℕ × ℕ). p.0) x.pairs) (flat_map (λ (q : Occurrence). q.names) x.values) (In-map (λ (p : ℕ × ℕ). p.0) x.pairs m.0 m.1) in
          ap (λ (p : ℕ × ℕ). to p.0) m.2 ∙ (to-name m.0.0 n ∙ (reads.slots m.0.0 m.0.1 (Contains-In x.pairs m.0 m.1) ∙ sym (ap (λ (p : ℕ × ℕ). p.1) m.2)))

      values : (v : List ℕ) (b : Applied) → value_at out.values v ≡ Some b → find g.found (valued s v) ≡ renamed_id to (find g.found b)
      values v b e =
          let c : Contains variables v = is.no_others v b e in
          let k : ℕ = c.0 in
          let o : Occurrence = slice_index_or x.values k no_occurrence in
          let var : slice_index_or variables k [] ≡ v = get_or_default variables k [] v c.1 ∙ c.2 in
          let is_b : b ≡ read_id g f o = Some-same b (read_id g f o) (sym e ∙ (ap (value_at out.values) (sym var) ∙ is.values k c.1)) in
          let renamed : renamed_id to (read_id g f o) ≡ read_id g reads.name o = λ i. (o.class, renamed-zip (used_slots g.found o.class) o.names (value-names k c.1) i) in
          ap (find g.found) (ap (valued s) (sym var) ∙ (reads.values k c.1 ∙ (sym renamed ∙ ap (renamed_id to) (sym is_b)))) ∙ found-renamed g.found to b

module _ (g : State) (rest : AtRest g) (order : List Row) (index : RowIndex) (is : IsIndexOf g order index) (variables : List (List ℕ)) (p : Pattern) (steps : List Step) (program : IsProgram (IsOutlineIn g order index) variables p steps) (found : List Values)
    (all : OneByOne (ReadsAnswer g variables) found (all_answers index steps)) where
  abbrev at_class : ℕ → List Answer
  at_class c = answers_at index.classes.items steps c

  pub answers-searched : Searches g order p found
  answers-searched = record { runs = runs; matches = matches }
    where
      runs : (c : ℕ) → c < length g.nodes → IsLive g.found c → IsRead g order p found c
      runs c h live =
          let r = class-answers g rest c h live order index is variables p steps program in
          let f : ℕ → ℕ = name_at (used_slots g.found c) in
          record {
            outs = r.0;
            run = r.1;
            read = λ out i.
                let a = beside-left (IsReadAs g f variables) r.0 (at_class c) r.2 out (In-Contains r.0 out i) in
                let there : In a.0 (all_answers index steps) = In-flat_map at_class index.live.items c a.0 (In-Contains index.live.items c ((is.live c).1 (h, live))) a.1 in
                let b = beside-right (ReadsAnswer g variables) found (all_answers index steps) all a.0 there in
                (b.0, Contains-In found b.0 b.1, to g f (f-injective g rest c h live) variables out a.0 b.0 a.2 b.2, state-read g f (f-injective g rest c h live) variables out a.0 b.0 a.2 b.2);
          }

      matches : (s : Values) → Contains found s → IsMatch g order p s
      matches s i =
          let b = beside-left (ReadsAnswer g variables) found (all_answers index steps) all s (In-Contains found s i) in
          let k = In-of_flat_map at_class index.live.items b.0 b.1 in
          let c : ℕ = k.0 in
          let live = (is.live c).0 (Contains-In index.live.items c k.1) in
          let r = class-answers g rest c live.0 live.1 order index is variables p steps program in
          let f : ℕ → ℕ = name_at (used_slots g.found c) in
          let a = beside-right (IsReadAs g f variables) r.0 (at_class c) r.2 b.0 k.2 in
          record {
            class = c;
            in_range = live.0;
            lives = live.1;
            outs = r.0;
            run = r.1;
            out = a.0;
            is_out = Contains-In r.0 a.0 a.1;
            names = to g f (f-injective g rest c live.0 live.1) variables a.0 b.0 s a.2 b.2;
            reads = state-read g f (f-injective g rest c live.0 live.1) variables a.0 b.0 s a.2 b.2;
          }
