-- The instance of a pattern from those of its parts.
use Rattle.std.proofs.Common.{◌≡◌, ◌∙◌, ap, refl, sym, subst, inl, inr, ℕ, zero, suc, ◌<◌, ◌≤◌, List, [], ◌∷◌, ◌++◌, length, arith}
use Rattle.std.specs.Prelude.{IsTrue, Contains, Some, is_some, slice_index_or}
use Rattle.std.proofs.lemmas.Bool.{cases_eq}
use Rattle.std.proofs.lemmas.List.Elements.{Contains-append_left, Contains-append_right, Contains-append_cases}
use Rattle.slotted_lists.proofs.Each.{Each-from_All}
use Rattle.slotted_slots.specs.Table.{is_known, AllKnown}
use Rattle.slotted_theory.specs.Nameless.{DTerm}
use Rattle.slotted_theory.proofs.Values.{node}
use Rattle.slotted_nodes.specs.Form.{Form, children}
use Rattle.slotted_languages.specs.NodeTerm.{nameless_node}
use Rattle.slotted_languages.specs.Shape.{Fits}
use Rattle.slotted_model.specs.Applied.{Applied}
use Rattle.slotted_model.specs.Classes.{term_of, layer_of}
use Rattle.slotted_model_rules.specs.Conditions.{Values}
use Rattle.slotted_model_rules.specs.Instances.{IsAnswer, HasAnswers}
use Rattle.slotted_model_rules.specs.Matcher.{value_at}
use Rattle.slotted_model_rules.specs.Patterns.{Pattern, variable}
use Rattle.slotted_model_rules.specs.Rules.{valued, id_or_none}
use Rattle.slotted_model_rules.proofs.Patterns.Instantiating.{built-nodes}
use Rattle.slotted_model_rules.proofs.Laws.{pattern-laws}
use Rattle.slotted_model_rules.proofs.Substitutions.ReplacedIds.{filled-stays}
use Rattle.slotted_patterns.specs.Known.{AreKnown}
use Rattle.slotted_patterns.specs.Tree.{PatternTree, enode, pvar, substitution, row_of}
use Rattle.slotted_lookup.specs.Filling.{node_over}
use Rattle.slotted_operations.proofs.CallerLemmas.{full-valid}
use Rattle.slotted_graph.proofs.Extending.{extends-itself}
use Rattle.slotted_graph.specs.Adding.{AddsSyn}
use Rattle.slotted_graph.specs.Graph.{Graph, IsFullId, OnlyTakesSlots}
use Rattle.slotted_graph.specs.States.{IsGraph}
use Rattle.slotted_graph.specs.Extension.{ExtendsTo}
use Rattle.slotted_graph.specs.ValidIds.{IsValidId}
use Rattle.slotted_rule_patterns.specs.PatternCode.{pattern_in}
use Rattle.slotted_rule_patterns.proofs.KnownVariables.{entry-valued}
use Rattle.slotted_rule_patterns.proofs.Parts.{node-parts, replacing-parts}
use Rattle.slotted_rules.specs.Building.{Builds}
use Rattle.slotted_rules.specs.Instances.{AreValidValues, Instantiates}
use Rattle.slotted_rules.specs.Methods.{Method, represented, IsKnownMethod, AreRepresentatives}
use Rattle.slotted_rules.specs.Putting.{PutsIn}
use Rattle.slotted_rules.specs.Stacked.{Makes}
use Rattle.slotted_rules.proofs.Answers.{method-moves, method-more, answer-more, answer-stays, instance-wider, EachPair, IsAnswerOver, over-answers}
use Rattle.slotted_rules.proofs.Growing.{builds-takes, graph-canonical, grows-itself, grows-then}
use Rattle.slotted_rules.proofs.Parts.{pattern_at, all-known, part-at}
use Rattle.slotted_rules.proofs.Putting.{representatives-longer}
use Rattle.slotted_rules.specs.Frames.{at}

pub makes-itself : (m : Method) (g : Graph) → IsGraph g → Makes m g g
makes-itself m g is = record { grows = grows-itself g is; asserts = λ k. refl }

pub makes-takes : (m : Method) (g h : Graph) → IsGraph g → OnlyTakesSlots g h → Makes m g h
makes-takes m g h is takes = let b = builds-takes g h is takes in record { grows = b.grows; asserts = λ k. b.asserts }

-- the pairs of two lists represent
pub representatives-both : (g h : Graph) (X Y : List (DTerm × DTerm)) → AreRepresentatives g h X → AreRepresentatives g h Y → AreRepresentatives g h (X ++ Y)
representatives-both g h X Y e d p c = elim (Contains-append_cases X Y p c) [ inl k ↦ e p k | inr k ↦ d p k ]

-- after k children: n is the node over ids of instances of these
pub record AreBuilt (m : Method) (g : Graph) (s : Values) (f : Form) (qs : List PatternTree) (h : Graph) (n : Form) (k : ℕ) : Type 0 where
  pub ids : List Applied
  pub count : length ids ≡ k
  pub form : n ≡ node_over f ids
  pub makes : Makes m g h
  pub each : (j : ℕ) → j < k → Instantiates m g h s (pattern_at qs j) (at ids j)

module _ (m : Method) (g : Graph) (s : Values) (f : Form) (qs : List PatternTree) (fits : Fits f) where
  module _ (h : Graph) (n : Form) (k : ℕ) (b : AreBuilt m g s f qs h n k) where
    -- all answers, by the pairs of all
    record Gathered (j : ℕ) : Type 0 where
      pub pairs : List (DTerm × DTerm)
      pub are : AreRepresentatives g h pairs
      pub answers : (i : ℕ) → i < j → (p : Pattern) → pattern_in (pattern_at qs i) ≡ Some p → (given : List ℕ) → AllKnown g.table given → IsAnswer (represented m pairs) h.image.canonical given (valued s) p (at b.ids i)

    gathered : IsKnownMethod m → (j : ℕ) → j ≤ k → Gathered j
    gathered km zero l = record { pairs = []; are = λ p c. absurd (omega (arith, c.1)); answers = λ i h. absurd (omega arith) }
    gathered km (suc j) l =
        let before = gathered km j (omega arith) in
        let here = (b.each j (omega arith)).instance km in
        let all : List (DTerm × DTerm) = before.pairs ++ here.pairs in
        record {
          pairs = all;
          are = representatives-both g h before.pairs here.pairs before.are here.are;
          answers = λ i lt p e given known. elim (cases_eq i j) [
            | inl same ↦
                subst (λ z. IsAnswer (represented m all) h.image.canonical given (valued s) p (at b.ids z)) (sym same)
                (answer-more m here.pairs all (λ q c. Contains-append_right before.pairs here.pairs q c) h.image.canonical (valued s) given p (at b.ids j)
                (here.answers p (ap (λ z. pattern_in (pattern_at qs z)) (sym same) ∙ e) given known))
            | inr other ↦
                answer-more m before.pairs all (λ q c. Contains-append_left before.pairs here.pairs q c) h.image.canonical (valued s) given p (at b.ids i)
                (before.answers i (omega (arith, lt, other)) p e given known)
          ];
        }

    pub built-node : k ≡ length (children f.tree) → length qs ≡ length (children f.tree) → AreKnown g.table f.names → (i : Graph) (a : Applied) → AddsSyn h i n a → Builds h i → IsFullId i a → Instantiates m g i s (enode f (row_of qs)) a
    built-node e ce own i a syn builds full = record {
      grows = grows-then g h i b.makes.grows builds.grows;
      valid = full-valid i a full;
      instance = λ km.
          let all = gathered km k (omega arith) in
          record {
            asserts = builds.asserts ∙ b.makes.asserts km;
            pairs = all.pairs;
            are = representatives-longer g g h i all.pairs (itself g) builds.grows.extends all.are;
            answers = λ p is given known. answers km all p is given known;
          };
    }
      where
        itself : (g : Graph) → ExtendsTo g g
        itself g = extends-itself g

        each-pair : (P : Pattern → Applied → Type 0) (ps : List Pattern) (bs : List Applied) → length ps ≡ length bs → ((j : ℕ) → j < length ps → P (slice_index_or ps j (variable [])) (at bs j)) → EachPair P ps bs
        each-pair P [] bs l all = tt
        each-pair P (p ∷ ps) [] l all = absurd (omega (arith, l))
        each-pair P (p ∷ ps) (b ∷ bs) l all = (all 0 (omega arith), each-pair P ps bs (omega (arith, l)) (λ j lt. all (suc j) (omega (arith, lt))))

        answers : IsKnownMethod m → (all : Gathered k) → (p : Pattern) → pattern_in (enode f (row_of qs)) ≡ Some p → (given : List ℕ) → AllKnown g.table given → IsAnswer (represented m all.pairs) i.image.canonical given (valued s) p a
        answers km all p is given known =
            let R = represented m all.pairs in
            let parts = node-parts f (row_of qs) p is in
            let o : Form = node_over f b.ids in
            let on = builds.grows.extends.canonical in
            let added : AddsSyn h i o a = subst (λ (z : Form). AddsSyn h i z a) b.form syn in
            let fills = added.fills given (λ j d l. b.makes.grows.extends.more _ (known j d l)) in
            let pairs : EachPair (IsAnswerOver R i.image.canonical (valued s) g.table) parts.patterns b.ids =
            each-pair (IsAnswerOver R i.image.canonical (valued s) g.table) parts.patterns b.ids (parts.count ∙ (sym e ∙ sym b.count))
            (λ j lt given known.
            answer-stays R h.image.canonical i.image.canonical on (valued s) given (slice_index_or parts.patterns j (variable [])) (at b.ids j)
            (all.answers j (omega (arith, lt, parts.count, e)) (slice_index_or parts.patterns j (variable [])) (part-at qs parts.patterns parts.are j (omega (arith, lt, parts.count, ce))) given known)) in
            let has : HasAnswers R i.image.canonical given (valued s) (λ y. y) _ (nameless_node o).args =
            over-answers R i.image.canonical (valued s) g.table (λ y. y) given f.tree f.names b.ids parts.patterns fits (b.count ∙ e) parts.count
            (Each-from_All (λ z. IsTrue (is_known g.table z)) f.names (all-known g.table f.names own)) known pairs in
            subst (λ z. IsAnswer R i.image.canonical given (valued s) z a) (sym parts.is)
            (built-nodes R (method-moves m all.pairs) i.image.canonical (graph-canonical i builds.grows.graph) (valued s) given (suc f.operator) f.payloads _ (nameless_node o).args added.node.args
            has (filled-stays h.image.canonical i.image.canonical on given (nameless_node o).args added.node.args fills.children) a full.full
            (added.term ∙ (λ z. layer_of i.image.canonical (node (fills.operator z) (fills.payloads z) added.node.args))))

-- a variable has its value for an answer
pub variable-instance : (m : Method) (g : Graph) (s : Values) → IsGraph g → AreValidValues g s → (v : List ℕ) (a : Applied) → value_at s v ≡ Some a → Instantiates m g g s (pvar v) a
variable-instance m g s is valid v a found =
    let value : valued s v ≡ a = ap id_or_none found in
    record {
      grows = grows-itself g is;
      valid = subst (IsValidId g) value (entry-valued (IsValidId g) s v valid (ap is_some found));
      instance = λ km. record {
        asserts = refl;
        pairs = [];
        are = λ p c. absurd (omega (arith, c.1));
        answers = λ p e given known. let same : variable v ≡ p = cc in inl (v, sym same, sym value);
      };
    }

-- and a substitution what the method answers, for fillings of the answers for its parts
pub substituted-instance : (m : Method) (g i h : Graph) (s : Values) (b x t : PatternTree) (body part value a : Applied) → IsGraph g → Makes m g i → Instantiates m g i s b body → Instantiates m g i s x part → Instantiates m g i s t value →
    PutsIn m i h body part value a → Instantiates m g h s (substitution b x t) a
substituted-instance m g i h s b x t body part value a is before nb nx nt put =
    let last : Makes m i h = record { grows = put.grows; asserts = λ k. (put.filled k).stands.asserts } in
    let wider = λ (q : PatternTree) (z : Applied) (n : Instantiates m g i s q z). instance-wider m g g i h s q z (makes-itself m g is) last n in
    let wb = wider b body nb in
    let wx = wider x part nx in
    let wt = wider t value nt in
    record {
      grows = grows-then g i h before.grows put.grows;
      valid = put.valid;
      instance = λ km.
          let q = put.filled km in
          let pb = (wb.instance km).pairs in
          let px = (wx.instance km).pairs in
          let pt = (wt.instance km).pairs in
          let pq = q.stands.pairs in
          let all : List (DTerm × DTerm) = pb ++ (px ++ (pt ++ pq)) in
          let more-x : (z : DTerm × DTerm) → Contains px z → Contains all z = λ z c. Contains-append_right pb (px ++ (pt ++ pq)) z (Contains-append_left px (pt ++ pq) z c) in
          let more-t : (z : DTerm × DTerm) → Contains pt z → Contains all z = λ z c. Contains-append_right pb (px ++ (pt ++ pq)) z (Contains-append_right px (pt ++ pq) z (Contains-append_left pt pq z c)) in
          let more-q : (z : DTerm × DTerm) → Contains pq z → Contains all z = λ z c. Contains-append_right pb (px ++ (pt ++ pq)) z (Contains-append_right px (pt ++ pq) z (Contains-append_right pt pq z c)) in
          record {
            asserts = q.stands.asserts ∙ before.asserts km;
            pairs = all;
            are =
                representatives-both g h pb (px ++ (pt ++ pq)) (wb.instance km).are
                (representatives-both g h px (pt ++ pq) (wx.instance km).are
                (representatives-both g h pt pq (wt.instance km).are (representatives-longer g i h h pq before.grows.extends (extends-itself h) q.stands.are)));
            answers = λ p found given known.
                let n = replacing-parts b x t p found in
                let R = represented m all in
                let k : AllKnown i.table given = λ j d l. before.grows.extends.more _ (known j d l) in
                subst (λ z. IsAnswer R h.image.canonical given (valued s) z a) (sym n.is)
                (pattern-laws.replaced_are_instances R h.image.canonical given (valued s) n.body n.part n.value body part value q.body q.part q.value q.stands.body
                (answer-more m pb all (λ z c. Contains-append_left pb (px ++ (pt ++ pq)) z c) h.image.canonical (valued s) given n.body body ((wb.instance km).answers n.body n.body_is given known))
                (answer-more m px all more-x h.image.canonical (valued s) given n.part part ((wx.instance km).answers n.part n.part_is given known))
                (answer-more m pt all more-t h.image.canonical (valued s) given n.value value ((wt.instance km).answers n.value n.value_is given known))
                (q.body_fills given k) (q.part_fills given k) (q.value_fills given k)
                (method-more m pq all more-q (term_of h.image.canonical q.body) q.stands.body q.stands.stands)
                a q.stands.full.full q.stands.term);
          };
    }
