-- What writes leave that modify classes at their ends.
use Rattle.std.proofs.Common.{◌≡◌, ◌∙◌, ◌∷◌, [], ap, refl, sym, subst, inl, inr, arith}
use Rattle.std.specs.Prelude.{◌⊎◌, ◌↔◌, Bool, false, true, IfOk, IsErr, IsSome, IsTrue, List, OnOk, Option, Result, Ok, Err, ℕ}
use Rattle.slotted_slots.specs.declared.error.Error.{Error}
use Rattle.std.specs.Coded.{Coded}
use Rattle.std.proofs.lemmas.Bool.{false≢true}
use Rattle.slotted_slots.specs.Table.{KnowsMore}
use Rattle.slotted_slots.specs.declared.types.AppliedId.{AppliedId}
use Rattle.slotted_proofs.specs.Equations.{to_applied}
use Rattle.slotted_theory.specs.Term.{Term}
use Rattle.slotted_nodes.specs.Form.{Form}
use Rattle.slotted_model.specs.Applied.{Applied}
use Rattle.slotted_model.specs.Growth.{Extends}
use Rattle.slotted_data.specs.Meaning.{IsMergeOf, Meaning}
use Rattle.slotted_data.specs.Part.{Part, part_code}
use Rattle.slotted_operations.specs.Explaining.{AddsTerms, KeepsKnown}
use Rattle.slotted_operations.specs.Graph.{Graph, RecordsUnion}
use Rattle.slotted_operations.specs.Image.{AddsClasses, FoundAlike, IsUnion, asserted_in}
use Rattle.slotted_operations.specs.LookUp.{IsOneGraph, MakesClassFor, look_up}
use Rattle.slotted_operations.specs.ValidIds.{IsValidNode}
use Rattle.slotted_graph.specs.Analysed.{CarriesData, CarriesDataWith, CountsPending, HasRounds}
use Rattle.slotted_graph.specs.Asked.{Asks, IsAskedBetween, IsAskedBetweenWith}
use Rattle.slotted_graph.specs.Extension.{ExtendsTo}
use Rattle.slotted_graph.specs.Rounds.{IsModified, LeavesModified, MakesRounds, no_rounds}
use Rattle.slotted_graph.specs.States.{IsGraph}
use Rattle.slotted_graph.specs.Writing.{AddsAndModifies, AddsMore, ExplainsAndModifies, IfUnmodified, LeavesAsked, LeavesAskedWith, MakesForNode, MakesForSynTerm, MergesAndModifies, UnitesAndModifies}
use Rattle.slotted_graph.proofs.Extending.{extends-added, extends-itself, extends-then, extends-united}
use Rattle.slotted_graph.proofs.Insides.{given}
use Rattle.slotted_graph.proofs.Leaving.{asked-longer-with, asked-on-with, extends-kept, leaves-itself}
use Rattle.slotted_graph.proofs.Saying.{carried-lowers-with, graph-kept, lowers-itself, lowers-then-with, no-more, then-more}

-- which classes were made, told of an answer
pub ok-both : {A : Type 0} (r : Result A Error) (P Q : Type 0) → OnOk r P → OnOk r Q → OnOk r (P × Q)
ok-both (Ok x) P Q p q = (p, q)
ok-both (Err e) P Q p q = tt

pub ok-some : (r : Result AppliedId Error) (P : Applied → Type 0) → IfOk r (λ a. P (to_applied a)) → OnOk r ((a : Applied) × P a)
ok-some (Ok x) P p = (to_applied x, p)
ok-some (Err e) P p = tt

pub ok-node : (r : Result AppliedId Error) (f : Form) (g h : Graph) → OnOk r (IsSome (look_up g f) → IsOneGraph g h) → IfOk r (λ a. MakesClassFor g h f (to_applied a)) → OnOk r (MakesForNode f g h)
ok-node (Ok x) f g h kept made = record { kept = kept; id = to_applied x; made = made }
ok-node (Err e) f g h kept made = tt

-- a node that was valid is valid later
pub node-later : (g h : Graph) (f : Form) → ExtendsTo g h → IsValidNode g f → IsValidNode h f
node-later g h f e v = record {
  few = v.few;
  known = λ k d lt. e.more _ (v.known k d lt);
  children = λ k d lt. e.valid _ (v.children k d lt);
}

-- what holds where classes are never modified, and what need not
pub unmodified : (modifies : Bool) → modifies ≡ false → (P : Type 0) → P → IfUnmodified modifies P
unmodified true never P p = tt
unmodified false never P p = p

pub is-modified : (modifies : Bool) → modifies ≡ true → (P : Type 0) → IfUnmodified modifies P
is-modified true always P = tt
is-modified false always P = absurd (false≢true always)

-- a graph whose write did not refuse had not failed
pub was-well : (g h : Graph) → (IsTrue g.failed → h ≡ g) → (IsTrue h.failed → false ≡ true) → g.failed ≡ false
was-well g h stays well = by g.failed (λ t. well (subst (λ (x : Graph). IsTrue x.failed) (sym (stays t)) t))
  where
    by : (b : Bool) → (IsTrue b → false ≡ true) → b ≡ false
    by true f = absurd (false≢true (f refl))
    by false f = refl

-- none of the classes of a graph waits
pub none-pending : {N D : Type 0} (codes : Coded N × Coded D) (g : Graph) (n : ℕ) → IsGraph g → IsTrue g.failed ⊎ CountsPending codes g n → n ≡ 0 → CountsPending codes g 0
none-pending codes g n is counts none = subst (CountsPending codes g) none (given is.well counts)

-- a graph has one limit of rounds
one-limit : {N D : Type 0} (codes : Coded N × Coded D) (g : Graph) (m n : ℕ) → HasRounds codes g m → HasRounds codes g n → m ≡ n
one-limit codes g m n a b =
    let same : a.part ≡ b.part = (part_code codes).inj a.part b.part (sym a.keeps ∙ b.keeps) in
    sym a.is ∙ (ap (λ (p : Part _ _). p.rounds) same ∙ b.is)

module _ {L N D : Type 0} (codes : Coded N × Coded D) (meaning : N → Meaning D) (law : (n : N) → IsMergeOf (meaning n)) (ask : Asks L N D) where
  -- where classes are never modified, nothing is done
  pub never-modified : (modifies : Bool) → modifies ≡ false → (g : Graph) → IsGraph g → IsModified codes meaning ask modifies g g false
  never-modified modifies never g is = record {
    leaves = leaves-itself codes meaning law ask g is;
    still = λ _. (refl, refl);
    rounds = λ yes. absurd (false≢true (sym never ∙ yes));
  }

  -- where none waits, nothing is to be done
  pub none-waits : (modifies : Bool) (g : Graph) → IsGraph g → CountsPending codes g 0 → IsModified codes meaning ask modifies g g false
  none-waits modifies g is none = record {
    leaves = leaves-itself codes meaning law ask g is;
    still = λ _. (refl, refl);
    rounds = λ yes limit has. record { taken = 0; within = omega arith; rounds = no_rounds; ends = inr none };
  }

  -- rounds were made up to the graph's limit
  pub was-modified : (modifies : Bool) → modifies ≡ true → (g h : Graph) (y : Bool) (limit : ℕ) → HasRounds codes g limit → MakesRounds codes meaning ask limit g h y → LeavesModified codes meaning ask g h →
      IsModified codes meaning ask modifies g h y
  was-modified modifies always g h y limit has made leaves = record {
    leaves = leaves;
    still = λ never. absurd (false≢true (sym never ∙ always));
    rounds = λ yes n is. subst (λ m. MakesRounds codes meaning ask m g h y) (one-limit codes g limit n has is) made;
  }

  pub ok-modified : (modifies : Bool) → modifies ≡ true → (g h : Graph) (r : Result Bool Error) (limit : ℕ) → HasRounds codes g limit → IfOk r (λ y. MakesRounds codes meaning ask limit g h y) →
      IfOk r (λ y. LeavesModified codes meaning ask g h) → IfOk r (IsModified codes meaning ask modifies g h)
  ok-modified modifies always g h (Ok y) limit has made leaves = was-modified modifies always g h y limit has made leaves
  ok-modified modifies always g h (Err e) limit has made leaves = tt

  leaves-asked : (g h : Graph) → LeavesModified codes meaning ask g h → LeavesAsked codes meaning ask g h
  leaves-asked g h l = record { extends = l.extends; asserts = l.asserts; lowers = l.lowers }

  asks-none-with : (given : List (ℕ × D)) (g h : Graph) → ExtendsTo g h → asserted_in h.image ≡ asserted_in g.image → CarriesDataWith given codes meaning g h → LeavesAskedWith given codes meaning ask g h
  asks-none-with given g h extends same carries = record {
    extends = extends;
    asserts = no-more (IsAskedBetweenWith given codes meaning ask g h) g h same;
    lowers = carried-lowers-with given codes meaning g h carries;
  }

  asks-none : (g h : Graph) → ExtendsTo g h → asserted_in h.image ≡ asserted_in g.image → CarriesData codes meaning g h → LeavesAsked codes meaning ask g h
  asks-none g h extends same carries = asks-none-with [] g h extends same carries

  asked-then-with : (given : List (ℕ × D)) (f g h : Graph) → LeavesAskedWith given codes meaning ask f g → LeavesAsked codes meaning ask g h → LeavesAskedWith given codes meaning ask f h
  asked-then-with given f g h a b = record {
    extends = extends-then f g h a.extends b.extends;
    asserts = then-more (IsAskedBetweenWith given codes meaning ask f g) (IsAskedBetween codes meaning ask g h) (IsAskedBetweenWith given codes meaning ask f h) f g h
        (λ p x. asked-on-with codes meaning law ask given f g h p b.extends b.lowers x)
        (λ p x. asked-longer-with codes meaning law ask given f g h h p a.extends a.lowers (extends-itself h) (lowers-itself codes meaning law h) x)
        a.asserts b.asserts;
    lowers = lowers-then-with given codes meaning law f g h a.extends a.lowers b.lowers;
  }

  pub asked-then : (f g h : Graph) → LeavesAsked codes meaning ask f g → LeavesAsked codes meaning ask g h → LeavesAsked codes meaning ask f h
  asked-then f g h a b = asked-then-with [] f g h a b

  -- what adds and modifies leaves nothing that was not asked
  pub adds-asked : (modifies : Bool) (W : Graph → Graph → Type 0) (g h : Graph) → AddsAndModifies codes meaning ask modifies W g h → LeavesAsked codes meaning ask g h
  adds-asked modifies W g h a =
      let first = asks-none g a.added a.adds.extends a.adds.asserted a.adds.carries in
      let both = asked-then g a.added a.modified first (leaves-asked a.added a.modified a.rounds.leaves) in
      elim a.again [
        | inl same ↦ subst (LeavesAsked codes meaning ask g) (sym same) both
        | inr more ↦ asked-then g a.modified h both (asks-none a.modified h more.extends more.asserted more.carries)
      ]

  -- nor does what merges and modifies
  pub merges-asked : (modifies : Bool) (g h : Graph) (i : ℕ) (v : D) → MergesAndModifies codes meaning ask modifies g h i v → LeavesAskedWith ((i, v) ∷ []) codes meaning ask g h
  merges-asked modifies g h i v m =
      asked-then-with ((i, v) ∷ []) g m.merged h (asks-none-with ((i, v) ∷ []) g m.merged (extends-kept g m.merged m.same) (ap asserted_in m.same.image) m.merges.carries) (leaves-asked m.merged h m.rounds.leaves)

  -- what was added by a call that modifies no class
  pub adds-more : (W : Graph → Graph → Type 0) (g h : Graph) → IsGraph h → Extends g.image.canonical h.image.canonical → AddsClasses g.image h.image → KnowsMore g.table h.table → CarriesData codes meaning g h → W g h → AddsMore codes meaning W g h
  adds-more W g h is extends adds more carries made = record { graph = is; extends = extends-added g h extends adds more; asserted = adds.asserted; carries = carries; made = made }

  pub adds-alone : (modifies : Bool) → modifies ≡ false → (W : Graph → Graph → Type 0) (g h : Graph) → AddsMore codes meaning W g h → AddsAndModifies codes meaning ask modifies W g h
  adds-alone modifies never W g h adds = record { added = h; adds = adds; modified = h; asked = false; rounds = never-modified modifies never h adds.graph; again = inl refl }

  -- what a quiet addition says, told of its answer
  pub ok-adds : {A : Type 0} (r : Result A Error) (W : Graph → Graph → Type 0) (g h : Graph) → IsTrue h.failed ⊎ IsGraph h → (IsTrue h.failed → IsErr r) → OnOk r (Extends g.image.canonical h.image.canonical) → OnOk r (AddsClasses g.image h.image) →
      KnowsMore g.table h.table → OnOk r (CarriesData codes meaning g h) → OnOk r (W g h) → OnOk r (AddsMore codes meaning W g h)
  ok-adds (Ok x) W g h is fails extends adds more carries made = adds-more W g h (graph-kept h is fails) extends adds more carries made
  ok-adds (Err e) W g h is fails extends adds more carries made = tt

  pub ok-alone : {A : Type 0} (r : Result A Error) (modifies : Bool) → modifies ≡ false → (W : Graph → Graph → Type 0) (g h : Graph) → OnOk r (AddsMore codes meaning W g h) → OnOk r (AddsAndModifies codes meaning ask modifies W g h)
  ok-alone (Ok x) modifies never W g h adds = adds-alone modifies never W g h adds
  ok-alone (Err e) modifies never W g h adds = tt

  pub ok-again : {A : Type 0} (r : Result A Error) (modifies : Bool) (W : Graph → Graph → Type 0) (f g h i : Graph) (y : Bool) → AddsMore codes meaning W f g → IsModified codes meaning ask modifies g h y → OnOk r (AddsMore codes meaning W h i) →
      OnOk r (AddsAndModifies codes meaning ask modifies W f i)
  ok-again (Ok x) modifies W f g h i y first rounds again = record { added = g; adds = first; modified = h; asked = y; rounds = rounds; again = inr again }
  ok-again (Err e) modifies W f g h i y first rounds again = tt

  pub ok-asked : {A : Type 0} (r : Result A Error) (modifies : Bool) (W : Graph → Graph → Type 0) (g h : Graph) → OnOk r (AddsAndModifies codes meaning ask modifies W g h) → OnOk r (LeavesAsked codes meaning ask g h)
  ok-asked (Ok x) modifies W g h adds = adds-asked modifies W g h adds
  ok-asked (Err e) modifies W g h adds = tt

  pub ok-extends : {A : Type 0} (r : Result A Error) (modifies : Bool) (W : Graph → Graph → Type 0) (g h : Graph) → OnOk r (AddsAndModifies codes meaning ask modifies W g h) → OnOk r (Extends g.image.canonical h.image.canonical)
  ok-extends (Ok x) modifies W g h adds = (adds-asked modifies W g h adds).extends.canonical
  ok-extends (Err e) modifies W g h adds = tt

  -- what a quiet union says, told of its answer
  pub ok-unites : (r : Result Bool Error) (modifies : Bool) → modifies ≡ false → (g h : Graph) (a b : AppliedId) (text : Option (List ℕ)) → IsTrue h.failed ⊎ IsGraph h → (IsTrue h.failed → IsErr r) →
      IfOk r (IsUnion g.image h.image (to_applied a) (to_applied b)) → OnOk r (RecordsUnion g h a b text) → IfOk r (λ y. y ≡ false → h.filed ≡ g.filed) → h.table ≡ g.table → OnOk r (CarriesData codes meaning g h) →
      IfOk r (UnitesAndModifies codes meaning ask modifies g h a b text)
  ok-unites (Ok y) modifies never g h a b text is fails union records filed table carries =
      record { united = h; union = union; records = records; filed = filed; table = table; carries = carries; asked = false; rounds = never-modified modifies never h (graph-kept h is fails) }
  ok-unites (Err e) modifies never g h a b text is fails union records filed table carries = tt

  pub ok-answer : (r : Result Bool Error) (modifies : Bool) (g h : Graph) (a b : AppliedId) (text : Option (List ℕ)) → IfOk r (UnitesAndModifies codes meaning ask modifies g h a b text) →
      IfOk r (λ y. IsTrue y ↔ (¬ FoundAlike g.image (to_applied a) (to_applied b)))
  ok-answer (Ok y) modifies g h a b text u = u.union.answer
  ok-answer (Err e) modifies g h a b text u = tt

  pub ok-united : (r : Result Bool Error) (modifies : Bool) (g h : Graph) (a b : AppliedId) (text : Option (List ℕ)) → IfOk r (UnitesAndModifies codes meaning ask modifies g h a b text) → OnOk r (ExtendsTo g h)
  ok-united (Ok y) modifies g h a b text u = extends-then g u.united h (extends-united g u.united a b text y u.union u.records u.table) u.rounds.leaves.extends
  ok-united (Err e) modifies g h a b text u = tt

  -- what was explained without edits asserts nothing
  pub explained-asked : (g h : Graph) → IsTrue h.failed ⊎ AddsTerms g.image h.image → KnowsMore g.table h.table → IsTrue h.failed ⊎ CarriesData codes meaning g h → IsTrue h.failed ⊎ LeavesAsked codes meaning ask g h
  explained-asked g h (inl failed) more carries = inl failed
  explained-asked g h (inr adds) more (inl failed) = inl failed
  explained-asked g h (inr adds) more (inr carries) = inr (asks-none g h (extends-added g h adds.extends adds.adds more) adds.adds.asserted carries)

  -- nor does it where edits were made before
  pub explained-after : (f g h : Graph) → LeavesAsked codes meaning ask f g → IsTrue h.failed ⊎ LeavesAsked codes meaning ask g h → IsTrue h.failed ⊎ LeavesAsked codes meaning ask f h
  explained-after f g h edits (inl failed) = inl failed
  explained-after f g h edits (inr more) = inr (asked-then f g h edits more)

  -- both terms were added with their edits, and then nothing is asked
  pub explains-modified : (modifies : Bool) (t u : Term) (f g h i : Graph) → AddsAndModifies codes meaning ask modifies (MakesForSynTerm t) f g → AddsAndModifies codes meaning ask modifies (MakesForSynTerm u) g h →
      IsTrue i.failed ⊎ AddsTerms h.image i.image → IsTrue i.failed ⊎ KeepsKnown h i t u → IsTrue i.failed ⊎ CarriesData codes meaning h i → IsTrue i.failed ⊎ ExplainsAndModifies codes meaning ask modifies t u f i
  explains-modified modifies t u f g h i left right (inl failed) kept carries = inl failed
  explains-modified modifies t u f g h i left right (inr adds) (inl failed) carries = inl failed
  explains-modified modifies t u f g h i left right (inr adds) (inr kept) (inl failed) = inl failed
  explains-modified modifies t u f g h i left right (inr adds) (inr kept) (inr carries) = inr (record { first = g; left = left; both = h; right = right; adds = adds; kept = kept; carries = carries })

-- what holds before holds after, where classes are never modified
pub still-unmodified : {L N D : Type 0} (codes : Coded N × Coded D) (meaning : N → Meaning D) (ask : Asks L N D) (modifies : Bool) (g h : Graph) (y : Bool) → IsModified codes meaning ask modifies g h y →
    (P : Graph → Type 0) → P g → IfUnmodified modifies (P h)
still-unmodified codes meaning ask true g h y m P p = tt
still-unmodified codes meaning ask false g h y m P p = subst P (sym (m.still refl).0) p
