-- What is found by a search over a graph: it is looked up, and where no slot was dropped all is found.
use Rattle.std.proofs.Common.{◌≡◌, ◌∙◌, ◌<◌, ℕ, List, Some, length, ap, sym, subst, arith}
use Rattle.std.specs.Prelude.{◌↔◌, Contains}
use Rattle.std.specs.Map.{values_of}
use Rattle.slotted_lists.proofs.Members.{In-Contains, Contains-In}
use Rattle.slotted_model.specs.Applied.{Applied, renamed_id}
use Rattle.slotted_theory.specs.Renaming.{Bijection}
use Rattle.slotted_theory.specs.Shape.{free_names}
use Rattle.slotted_model.specs.Classes.{canonical_node, canonical_slots}
use Rattle.slotted_theory.specs.Nameless.{DTerm}
use Rattle.slotted_model.specs.Ascending.{ascending}
use Rattle.slotted_model.specs.Find.{IsLive, find, find_class, find_map}
use Rattle.slotted_model.specs.Rest.{AtRest, IsValidIn}
use Rattle.slotted_model.specs.State.{Row, State}
use Rattle.slotted_model.proofs.Finds.Finding.{find_class-live, found-live, leads}
use Rattle.slotted_model.proofs.Rebuilding.Lacking.{same-ascending}
use Rattle.slotted_model.proofs.Finds.NormalIds.{Contains-ascending, Contains-of_ascending}
use Rattle.slotted_model_rules.specs.Complete as model
use Rattle.slotted_model_rules.specs.Conditions.{Values}
use Rattle.slotted_model_rules.specs.Complete.{HasOwnBinders}
use Rattle.slotted_model_rules.specs.Matcher.{EachSlot, MatchState, Reads, class_id}
use Rattle.slotted_model_rules.specs.Patterns.{Pattern, PatternArgs, EachVariable, EachVariableIn, pattern_node, variable, replacing, no_argument, own_name, child_pattern, binding}
use Rattle.slotted_model_rules.specs.Rules.{IsMatch, IsRead, Searches, valued}
use Rattle.slotted_model_rules.specs.Patterns.{look_up_pattern as model_look_up}
use Rattle.slotted_model_rules.proofs.Matching.Answering.{found-values}
use Rattle.slotted_model_rules.proofs.Matching.ClassIds.{class-valid}
use Rattle.slotted_model_rules.proofs.Matching.Completing.{finds-all}
use Rattle.slotted_model_rules.proofs.Matching.Readings.{EachSlot-map, slots-named, readings-renamed}
use Rattle.slotted_model_rules.proofs.Rules.Rewriting.{each-variable}
use Rattle.slotted_model_rules.proofs.Rules.Searching.{match-looked_up, search-finds}
use Rattle.slotted_match_machine.proofs.Lists.{beside-left, beside-right}
use Rattle.slotted_classes.specs.Finding.{IsFindable}
use Rattle.slotted_classes.specs.Kept.{Kept, entries_of, nodes_of}
use Rattle.slotted_classes.proofs.KeptLists.{length-nodes_of}
use Rattle.slotted_matching.specs.Found.{AreReadings}
use Rattle.slotted_hashcons.specs.FiledRows.{Rows, rows_in}
use Rattle.slotted_hashcons.specs.WellFiled.{state_in}
use Rattle.slotted_operations.specs.Causes.{class_found}
use Rattle.slotted_operations.specs.Graph.{Graph}
use Rattle.slotted_operations.specs.Good.{Good, RestsWith, image_of}
use Rattle.slotted_operations.specs.Image.{Image, found_id}
use Rattle.slotted_operations.specs.ValidIds.{IsValidId, slots_left}
use Rattle.slotted_operations.proofs.Graphs.Images.{class_found-is, found-at, found_id-is}
use Rattle.slotted_operations.proofs.Graphs.AtRest.{at-rest}
use Rattle.slotted_operations.proofs.Ids.ValidIds.{of-valid}
use Rattle.slotted_graph.specs.Matching.{FindsAll, FindsAllAt, FindsEach, FindsEachAt, HasAllSlots, IsFoundUpTo}
use Rattle.slotted_graph.specs.PatternLookUps.{IsLookedUpAt, IsLookedUpLive, look_up_pattern}
use Rattle.slotted_graph.proofs.PatternLookUps.{pattern-is}

ascending-twice : (xs : List ℕ) → ascending (ascending xs) ≡ ascending xs
ascending-twice xs = same-ascending (ascending xs) xs (λ z c. Contains-of_ascending xs z c) (λ z c. Contains-ascending xs z c)

module _ (P Q R : List ℕ → Type 0) where
  mutual
    all-variables : (p : Pattern) → EachVariable P p → EachVariable Q p → EachVariable R p → EachVariable (λ v. P v × Q v × R v) p
    all-variables (pattern_node op payloads args) a b c = all-variables_in args a b c
    all-variables (variable v) a b c = (a, b, c)
    all-variables (replacing body part value) a b c = (all-variables body a.0 b.0 c.0, all-variables part a.1 b.1 c.1, all-variables value a.2 b.2 c.2)

    all-variables_in : (args : PatternArgs) → EachVariableIn P args → EachVariableIn Q args → EachVariableIn R args → EachVariableIn (λ v. P v × Q v × R v) args
    all-variables_in no_argument a b c = tt
    all-variables_in (own_name x rest) a b c = all-variables_in rest a b c
    all-variables_in (child_pattern p rest) a b c = (all-variables p a.0 b.0 c.0, all-variables_in rest a.1 b.1 c.1)
    all-variables_in (binding x inner rest) a b c = (all-variables_in inner a.0 b.0 c.0, all-variables_in rest a.1 b.1 c.1)

-- what three facts give of each variable
three-variables : (P Q R S : List ℕ → Type 0) → ((v : List ℕ) → P v → Q v → R v → S v) → (p : Pattern) → EachVariable P p → EachVariable Q p → EachVariable R p → EachVariable S p
three-variables P Q R S h p a b c = each-variable S (λ v. P v × Q v × R v) (λ v t. h v t.0 t.1 t.2) p (all-variables P Q R p a b c)

-- what is looked up as an id of a class is read there, where no class has dropped a slot
read-finds : (g : State) → AtRest g → model.HasAllSlots g → (order : List Row) → ((r : Row) → Contains g.rows r → Contains order r) → (p : Pattern) (found : List Values) →
    (σ : List ℕ → Applied) → EachVariable (λ v. IsValidIn g (σ v)) p → HasOwnBinders σ p → (x : Applied) → model_look_up g (λ y. y) σ p ≡ Some x → IsRead g order p found x.0 →
    (s : Values) × Contains found s × (π : Bijection) × EachSlot (λ t. π.to t ≡ t) p × EachVariable (λ v. find g.found (valued s v) ≡ renamed_id π.to (find g.found (σ v))) p
read-finds g rest all order has p found σ valid own x e r =
    let o = finds-all g rest all order has σ p valid own x e r.outs r.run in
    let q = r.read o.0 o.1 in
    let π = readings-renamed g o.0 o.2 q.2 σ (valued q.0) o.3 q.3 in (
      q.0,
      q.1,
      π.0,
      EachSlot-map _ (λ t. π.0.to t ≡ t) (λ t k. π.1 k.0 t k.1) p (slots-named g order p _ _ r.outs r.run o.0 (In-Contains r.outs o.0 o.1)),
      each-variable (λ v. find g.found (valued q.0 v) ≡ renamed_id π.0.to (find g.found (σ v))) _ (λ v k. π.2 v k.0 k.1) p (found-values g order p _ _ r.outs r.run o.0 (In-Contains r.outs o.0 o.1)),
    )

module _ (g : Graph) (k : Kept) (r : Rows) (good : Good k) (rests : RestsWith k r) (image : image_of k ≡ g.image) (filed : rows_in r.filed ≡ g.filed)
    (order : List Row) (rows : (q : Row) → Contains (state_in k r).rows q ↔ Contains order q) (p : Pattern) where
  abbrev state : State
  state = state_in k r

  rest : AtRest state
  rest = at-rest k r good rests

  finds : (σ : List ℕ → Applied) → EachVariable (λ v. IsValidId g (σ v)) p → EachVariable (λ v. IsFindable k (σ v)) p
  finds σ valid = each-variable (λ v. IsFindable k (σ v)) (λ v. IsValidId g (σ v)) (λ v h. of-valid k good g image (σ v) h) p valid

  module _ (s : Values) (m : IsMatch state order p s) (valid : EachVariable (λ v. IsValidId g (valued s v)) p) where
    abbrev answer : Applied
    answer = renamed_id m.names (find (entries_of k) (class_id state m.class))

    answer-class : answer.0 ≡ m.class
    answer-class = let class = class-valid state rest m.class m.in_range in class.1 m.lives

    answered : look_up_pattern g (λ y. y) (valued s) p ≡ Some answer
    answered = pattern-is k r good rests g image filed (valued s) (λ y. y) (λ x y e. e) p (finds (valued s) valid) ∙ match-looked_up state rest order p s m

    looked_up : IsLookedUpLive g s p
    looked_up =
        let within : m.class < length k.classes = omega (arith, m.in_range, length-nodes_of k) in
        let here : class_found (image_of k) m.class ≡ m.class = class_found-is k m.class within ∙ answer-class in
        record {
          answer = answer;
          looked_up = answered;
          live = ap (λ (i : Image). class_found i answer.0) (sym image) ∙ (ap (class_found (image_of k)) answer-class ∙ (here ∙ sym answer-class));
        }

    looked_up-at : IsLookedUpAt g m.class s p
    looked_up-at = record { answer = answer; looked_up = answered; class = answer-class }

  -- where classes have all slots left, so they have in the state
  has-all : HasAllSlots g → model.HasAllSlots state
  has-all all i l =
      let within : i < length k.classes = omega (arith, l, length-nodes_of k) in
      let nodes : nodes_of k ≡ g.image.canonical = ap (λ (x : Image). x.canonical) image in
      let here : slots_left g.image i ≡ canonical_slots g.image.canonical i = all i (subst (λ (n : List DTerm). i < length n) nodes l) in
      let left : values_of (find_map (entries_of k) i) ≡ canonical_slots (nodes_of k) i =
      ap (λ (a : Applied). values_of a.1) (sym (found-at k i within)) ∙ (ap (λ (x : Image). slots_left x i) image ∙ (here ∙ ap (λ (n : List DTerm). canonical_slots n i) (sym nodes))) in
      ap ascending left ∙ ascending-twice (free_names (canonical_node (nodes_of k) i).args)

  found_is : (a : Applied) → a.0 < length (nodes_of k) → found_id g.image a ≡ find (entries_of k) a
  found_is a l = ap (λ (i : Image). found_id i a) (sym image) ∙ found_id-is k a (omega (arith, l, length-nodes_of k))

  module _ (found : List Values) (σ : List ℕ → Applied) (valid : EachVariable (λ v. IsValidId g (σ v)) p) where
    -- a search that finds it in the state finds it in the graph
    up-to : (s : Values) → Contains found s → (π : Bijection) → EachSlot (λ t. π.to t ≡ t) p → EachVariable (λ v. find (entries_of k) (valued s v) ≡ renamed_id π.to (find (entries_of k) (σ v))) p →
        EachVariable (λ v. (valued s v).0 < length g.image.canonical) p → IsFoundUpTo g p found σ
    up-to s is π slots each within =
        let same : List DTerm → Applied → Type 0 = λ n a. a.0 < length n in
        let nodes : nodes_of k ≡ g.image.canonical = ap (λ (i : Image). i.canonical) image in
        record {
          values = s;
          is_found = is;
          names = π;
          slots = slots;
          each = three-variables (λ v. find (entries_of k) (valued s v) ≡ renamed_id π.to (find (entries_of k) (σ v))) (λ v. (valued s v).0 < length g.image.canonical) (λ v. IsValidId g (σ v))
              (λ v. found_id g.image (valued s v) ≡ renamed_id π.to (found_id g.image (σ v)))
              (λ v h l w. found_is (valued s v) (subst (λ n. same n (valued s v)) (sym nodes) l) ∙ (h ∙ ap (renamed_id π.to) (sym (found_is (σ v) (subst (λ n. same n (σ v)) (sym nodes) w.in_range)))))
              p each within valid;
        }

    looked_up-in : (x : Applied) → look_up_pattern g (λ y. y) σ p ≡ Some x → model_look_up state (λ y. y) σ p ≡ Some x
    looked_up-in x e = sym (pattern-is k r good rests g image filed σ (λ y. y) (λ a b h. h) p (finds σ valid)) ∙ e

  each : (found : List Values) → Searches state order p found → ((s : Values) → Contains found s → EachVariable (λ v. (valued s v).0 < length g.image.canonical) p) → FindsEach g p found
  each found searches within all σ valid own x e =
      let f = search-finds state rest (has-all all) order (λ q. (rows q).0) p found searches σ (finds σ valid) own x (looked_up-in found σ valid x e) in
      up-to found σ valid f.0 f.1 f.2 f.3 f.4 (within f.0 f.1)

  each-at : (found : List Values) (c : ℕ) → IsRead state order p found c → ((s : Values) → Contains found s → EachVariable (λ v. (valued s v).0 < length g.image.canonical) p) → FindsEachAt g c p found
  each-at found c read within all σ valid own x e at =
      let f = read-finds state rest (has-all all) order (λ q. (rows q).0) p found σ (finds σ valid) own x (looked_up-in found σ valid x e) (subst (IsRead state order p found) (sym at) read) in
      up-to found σ valid f.0 f.1 f.2 f.3 f.4 (within f.0 f.1)

-- each answer of valid ids is looked up
pub found-looked_up : (g : Graph) (p : Pattern) (found : List Values) → FindsAll g p found → (s : Values) → Contains found s → EachVariable (λ v. IsValidId g (valued s v)) p → IsLookedUpLive g s p
found-looked_up g p found f s c v =
    let is = f.is_state in
    looked_up g is.kept is.rows is.good is.rests is.image is.filed f.order (λ q. subst (λ (t : State). Contains t.rows q ↔ Contains f.order q) is.state (f.rows q)) p
    s ((subst (λ (t : State). Searches t f.order p found) is.state f.searches).matches s c) v

-- and where no slot was dropped, all is found
pub found-each : (g : Graph) (p : Pattern) (found : List Values) → FindsAll g p found →
    ((s : Values) → Contains found s → EachVariable (λ v. (valued s v).0 < length g.image.canonical) p) → FindsEach g p found
found-each g p found f within =
    let is = f.is_state in
    each g is.kept is.rows is.good is.rests is.image is.filed f.order (λ q. subst (λ (t : State). Contains t.rows q ↔ Contains f.order q) is.state (f.rows q)) p found
    (subst (λ (t : State). Searches t f.order p found) is.state f.searches) within

-- a live class finds itself
pub live-class : (k : Kept) → Good k → (c : ℕ) → c < length k.classes → IsLive (entries_of k) c → find_class (entries_of k) c ≡ c
live-class k good c within lives = find_class-live (nodes_of k) (entries_of k) (leads (nodes_of k) (entries_of k) good.stored.sane.sound.linked) c (omega (arith, within, length-nodes_of k)) lives

-- readings at a class
module _ (g : State) (order : List Row) (p : Pattern) (c : ℕ) (found : List Values) (readings : AreReadings g order p c found) where
  abbrev Read : MatchState → Values → Type 0
  Read out s = (f : ℕ → ℕ) × Reads g f (valued s) out

  abbrev match-at : c < length g.nodes → IsLive g.found c → (s : Values) → Contains found s → IsMatch g order p s
  match-at within lives s i =
      let b = beside-right Read readings.outs found readings.read s (In-Contains found s i) in
      record {
        class = c;
        in_range = within;
        lives = lives;
        outs = readings.outs;
        run = readings.run;
        out = b.0;
        is_out = Contains-In readings.outs b.0 b.1;
        names = b.2.0;
        reads = b.2.1;
      }

  read-at : IsRead g order p found c
  read-at = record {
    outs = readings.outs;
    run = readings.run;
    read = λ out i. let b = beside-left Read readings.outs found readings.read out (In-Contains readings.outs out i) in (b.0, Contains-In found b.0 b.1, b.2.0, b.2.1);
  }

-- each of them is looked up as an id of the class, if that is live
pub readings-looked_up : (g : Graph) (p : Pattern) (c : ℕ) (found : List Values) → FindsAllAt g c p found → c < length g.image.canonical → class_found g.image c ≡ c →
    (s : Values) → Contains found s → EachVariable (λ v. IsValidId g (valued s v)) p → IsLookedUpAt g c s p
readings-looked_up g p c found f within lives s i v =
    let is = f.is_state in
    let nodes : nodes_of is.kept ≡ g.image.canonical = ap (λ (x : Image). x.canonical) is.image in
    let here : c < length (nodes_of is.kept) = subst (λ (n : List DTerm). c < length n) (sym nodes) within in
    let live : find_class (entries_of is.kept) c ≡ c = sym (class_found-is is.kept c (omega (arith, here, length-nodes_of is.kept))) ∙ (ap (λ (x : Image). class_found x c) is.image ∙ lives) in
    let entry : IsLive (entries_of is.kept) c = subst (IsLive (entries_of is.kept)) live (found-live (nodes_of is.kept) (entries_of is.kept) (leads (nodes_of is.kept) (entries_of is.kept) (at-rest is.kept is.rows is.good is.rests).sane.sound.linked) c here) in
    let readings = subst (λ (t : State). AreReadings t f.order p c found) is.state f.readings in
    looked_up-at g is.kept is.rows is.good is.rests is.image is.filed f.order (λ q. subst (λ (t : State). Contains t.rows q ↔ Contains f.order q) is.state (f.rows q)) p
    s (match-at (state_in is.kept is.rows) f.order p c found readings here entry s i) v

pub readings-each : (g : Graph) (p : Pattern) (c : ℕ) (found : List Values) → FindsAllAt g c p found →
    ((s : Values) → Contains found s → EachVariable (λ v. (valued s v).0 < length g.image.canonical) p) → FindsEachAt g c p found
readings-each g p c found f within =
    let is = f.is_state in
    each-at g is.kept is.rows is.good is.rests is.image is.filed f.order (λ q. subst (λ (t : State). Contains t.rows q ↔ Contains f.order q) is.state (f.rows q)) p found c
    (read-at (state_in is.kept is.rows) f.order p c found (subst (λ (t : State). AreReadings t f.order p c found) is.state f.readings)) within
