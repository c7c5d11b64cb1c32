-- Where a node of the pattern has no row nothing is found.
use Rattle.std.proofs.Common.{◌≡◌, ℕ, ◌<◌, List, [], ◌++◌, Bool, true, false, length, refl, sym, ◌∙◌, inl, inr}
use Rattle.std.specs.Prelude.{Contains}
use Rattle.slotted_lists.proofs.Contained.{Contains-nil}
use Rattle.slotted_lists.proofs.Members.{In, In-Contains}
use Rattle.slotted_model.specs.Applied.{Applied}
use Rattle.slotted_model.specs.Find.{IsLive}
use Rattle.slotted_model.specs.State.{Row, State}
use Rattle.slotted_model.specs.Rest.{AtRest}
use Rattle.slotted_model.proofs.Data.Options.{None-Some}
use Rattle.slotted_model_rules.specs.Patterns.{Pattern, PatternArgs, pattern_node, variable, replacing, no_argument, own_name, child_pattern, binding}
use Rattle.slotted_model_rules.specs.Matcher.{NodeArgs, written_names, rest_of, id_of_first, inside_first, MatchState, Found, FoundIn, class_id, start_at}
use Rattle.slotted_model_rules.specs.Goals.{outlines_agree, has_outline}
use Rattle.slotted_model_rules.specs.Rules.{IsRead, Searches}
use Rattle.slotted_model_rules.proofs.Matching.Answering.{AtRow, at_row}
use Rattle.slotted_model_rules.proofs.Matching.ClassIds.{class-valid}
use Rattle.slotted_model_rules.proofs.Matching.FlatWalks.{no-walk, node-outline}
use Rattle.slotted_model_rules.proofs.Matching.Running.{a-run}
use Rattle.slotted_model_rules.proofs.Matching.Walking.{member-given}
use Rattle.slotted_match_machine.specs.Index.{HasOutline, LacksRow, LacksRowIn}

module _ (g : State) (order : List Row) where
  -- the row beside which a node was found has its outline
  row-outline : (op : ℕ) (payloads : List (List ℕ)) (args : PatternArgs) (st : MatchState) (a : Applied) (out : MatchState) (k : AtRow g order op payloads args st a out) → HasOutline k.row op payloads args
  row-outline op payloads args st a out k = record { operator = k.fits.operator; payloads_same = k.fits.payloads_same; places = go (outlines_agree args k.names) refl }
    where
      go : (b : Bool) → outlines_agree args k.names ≡ b → has_outline args k.row.shape.args ≡ true
      go true e = sym (node-outline g st.seen k.row a k.names args k.is_node) ∙ e
      go false e = absurd (None-Some k.pairs (sym (no-walk args k.names st.pairs e) ∙ k.went))

  mutual
    none-found : (p : Pattern) → LacksRow g.rows p → (st : MatchState) (a : Applied) (outs : List MatchState) → Found g order p st a outs → (out : MatchState) → In out outs → ⊥
    none-found (pattern_node op payloads args) lacks st a outs found out h =
        let k : AtRow g order op payloads args st a out = at_row g order op payloads args st a outs found out h in
        elim lacks [
          | inl none ↦ none k.row k.is_node.of_row.filed (row-outline op payloads args st a out k)
          | inr below ↦ none-inside args below k.names (record { values = st.values; pairs = k.pairs; seen = written_names k.names ++ st.seen }) k.here k.inside out k.member
        ]
    none-found (variable v) lacks st a outs found out h = lacks
    none-found (replacing body part value) lacks st a outs found out h = lacks

    none-inside : (args : PatternArgs) → LacksRowIn g.rows args → (n : NodeArgs) (st : MatchState) (outs : List MatchState) → FoundIn g order args n st outs → (out : MatchState) → In out outs → ⊥
    none-inside no_argument lacks n st outs found out h = lacks
    none-inside (own_name x rest) lacks n st outs found out h = none-inside rest lacks (rest_of n) st outs found out h
    none-inside (child_pattern p rest) lacks n st outs found out h =
        let m = member-given (λ s here. FoundIn g order rest (rest_of n) s here) found.0 outs found.2 out h in
        elim lacks [
          | inl l ↦ none-found p l st (id_of_first n) found.0 found.1 m.0 m.1
          | inr l ↦ none-inside rest l (rest_of n) m.0 m.2 m.3 out m.4
        ]
    none-inside (binding x inner rest) lacks n st outs found out h =
        let m = member-given (λ s here. FoundIn g order rest (rest_of n) s here) found.0 outs found.2 out h in
        elim lacks [
          | inl l ↦ none-inside inner l (inside_first n) st found.0 found.1 m.0 m.1
          | inr l ↦ none-inside rest l (rest_of n) m.0 m.2 m.3 out m.4
        ]

pub nothing-found : (g : State) → AtRest g → (order : List Row) → ((r : Row) → Contains order r → Contains g.rows r) → (p : Pattern) → LacksRow g.rows p → Searches g order p []
nothing-found g rest order filed p lacks = record { runs = runs; matches = λ s c. absurd (Contains-nil s c) }
  where
    runs : (c : ℕ) → c < length g.nodes → IsLive g.found c → IsRead g order p [] c
    runs c h live =
        let r = a-run g rest order filed p (start_at g c) (class_id g c) (class-valid g rest c h).0 in
        record { outs = r.0; run = r.1; read = λ out i. absurd (none-found g order p lacks (start_at g c) (class_id g c) r.0 r.1 out (In-Contains r.0 out i)) }
