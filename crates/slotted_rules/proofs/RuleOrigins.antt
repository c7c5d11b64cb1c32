-- Where written rules were applied, each new explicit entry comes from one of them, or entered in the edits after them.
use Rattle.std.proofs.Common.{◌≡◌, ◌∙◌, ◌<◌, ◌≤◌, ◌++◌, ◌∷◌, ℕ, List, length, map, ap, sym, subst, refl, inl, inr, arith}
use Rattle.std.specs.Prelude.{◌⊎◌, Bool, Contains, drop, slice_index_or, string_bytes}
use Rattle.std.proofs.lemmas.Bool.{cases_lt}
use Rattle.slotted_lists.proofs.Members.{In, Contains-In}
use Rattle.slotted_slots.specs.declared.error.Error.{Error}
use Rattle.slotted_nodes.specs.Form.{Form}
use Rattle.slotted_patterns.specs.View.{tree_of}
use Rattle.slotted_model.specs.ProofList.{ProofEntry, explicit, step_at}
use Rattle.slotted_model_rules.specs.Conditions.{Values}
use Rattle.slotted_model_rules.specs.Runners.{AppliesAll, AppliesRules, SearchesAll, none_applied, none_searched, one_applied, one_searched}
use Rattle.slotted_operations.specs.Graph.{Graph}
use Rattle.slotted_operations.specs.Image.{Image}
use Rattle.slotted_graph.specs.Extension.{ExtendsTo}
use Rattle.slotted_graph.proofs.Extending.{extends-itself, extends-takes, extends-then}
use Rattle.slotted_rules.proofs.InstanceEquations.{stored-length}
use Rattle.slotted_rules.specs.declared.rewrite.Rewrite.{Rewrite}
use Rattle.slotted_rules.specs.Applying.{RefusesRules, ThenModifies, apply_refused, search_refused}
use Rattle.slotted_rules.specs.Counting.{AppliesRule, BreaksRule, CountsAndModifies, CountsRules, SearchesRule, UnitesRule}
use Rattle.slotted_rules.specs.RuleOrigins.{AreFromRules, AreFromRulesOrEdits, ComesFromEdits, ComesFromRules}
use Rattle.slotted_rules.specs.declared.counting.RuleCounts.{RuleCounts}
use Rattle.slotted_rules.proofs.CountedRules.{applied-keys}
use Rattle.slotted_rules.proofs.Settling.{begins-at, begins-within, comes-wider}

-- an explicit entry that was there before was explicit then
pub step-before : (k h : Graph) → ExtendsTo k h → (n : ℕ) → n < length k.image.entries → step_at h.image.entries n ≡ explicit → step_at k.image.entries n ≡ explicit
step-before k h e n lt new = sym (ap (λ (z : ProofEntry). z.step) (begins-at k.image.entries h.image.entries _ e.entries n lt)) ∙ new

pub edits-wider : (after : Graph → Graph → Type 0) (g f h i : Graph) → ExtendsTo g f → ExtendsTo h i → (n : ℕ) → ComesFromEdits after f h n → ComesFromEdits after g i n
edits-wider after g f h i first later n c = record {
  before = c.before;
  left = c.left;
  by_edits = c.by_edits;
  start = extends-then g f c.before first c.start;
  end = extends-then c.left h i c.end later;
  past = c.past;
  within = c.within;
}

module _ {L C : Type 0} (form : L → Form) (holds : C → Values → Graph → Bool → Type 0) where
  abbrev applies : Rewrite L C → List Values → Graph → Graph → Type 0
  applies = AppliesRule form holds

  -- an entry that comes from a rule, and that is stored
  abbrev pub Came : List (Rewrite L C) → Graph → Graph → ℕ → Type 0
  Came rules g h n = ComesFromRules form holds rules g h n × (n < length h.image.stored)

  pub came-wider : (rules : List (Rewrite L C)) (g f h i : Graph) → ExtendsTo g f → ExtendsTo h i → (n : ℕ) → n < length h.image.entries → Came rules f h n → Came rules g i n
  came-wider rules g f h i before after n lt c =
      let r = c.0.rule in (
        record {
          rule = r;
          is_one = c.0.is_one;
          before = c.0.before;
          after = c.0.after;
          found = c.0.found;
          start = extends-then g f c.0.before before c.0.start;
          searched = c.0.searched;
          end = extends-then c.0.after h i c.0.end after;
          comes = comes-wider g f h i before after (holds r.condition) (tree_of form r.left) (tree_of form r.right) (string_bytes r.name) c.0.found n lt c.1 c.0.comes;
        },
        begins-within h.image.stored i.image.stored after.stored n c.1,
      )

  searches-same : {rules : List (Rewrite L C)} {g h : Graph} {founds : List (List Values)} → SearchesAll (SearchesRule form) rules g founds h → h.image ≡ g.image
  searches-same none_searched = refl
  searches-same (one_searched first more) = searches-same more ∙ first.takes.reads.image

  pub searches-extend : {rules : List (Rewrite L C)} {g h : Graph} {founds : List (List Values)} → SearchesAll (SearchesRule form) rules g founds h → ExtendsTo g h
  searches-extend none_searched = extends-itself _
  searches-extend (one_searched first more) = extends-then _ _ _ (extends-takes _ _ first.takes) (searches-extend more)

  pub applies-extend : {rules : List (Rewrite L C)} {founds : List (List Values)} {g h : Graph} → AppliesAll applies rules founds g h → ExtendsTo g h
  applies-extend none_applied = extends-itself _
  applies-extend (one_applied first more) = extends-then _ _ _ first.extends (applies-extend more)

  pub rules-extend : (rules : List (Rewrite L C)) (g h : Graph) → AppliesRules (SearchesRule form) applies rules g h → ExtendsTo g h
  rules-extend rules g h a = extends-then g a.searched h (searches-extend a.by_searches) (applies-extend a.by_applies)

  -- searches from e on, and applies from j on, both later than g
  each-came : (all : List (Rewrite L C)) (g : Graph) {rules : List (Rewrite L C)} {e i j h : Graph} {founds : List (List Values)} → ((r : Rewrite L C) → In r rules → Contains all r) → ExtendsTo g e → ExtendsTo g j → ExtendsTo i j → SearchesAll (SearchesRule form) rules e founds i →
      AppliesAll applies rules founds j h → (n : ℕ) → length j.image.entries ≤ n → n < length h.image.entries → step_at h.image.entries n ≡ explicit → Came all g h n
  each-came all g sub start end between none_searched none_applied n past lt new = absurd (omega (arith, past, lt))
  each-came all g sub start end between (one_searched {rule = rule} {g = e} {f = f} {found = found} first more) (one_applied {g = j} {f = k} {h = h} now later) n past lt new = elim (cases_lt n (length k.image.entries)) [
    | inl before ↦
        let after : ExtendsTo k h = applies-extend later in
        let was : step_at k.image.entries n ≡ explicit = step-before k h after n before new in
        let kept : n < length k.image.stored = omega (arith, before, stored-length k now.graph) in (
          record {
            rule = rule;
            is_one = sub rule (inl refl);
            before = e;
            after = f;
            found = found;
            start = start;
            searched = first;
            end = extends-then _ _ _ (searches-extend more) (extends-then _ _ _ between (extends-then _ _ _ now.extends after));
            comes = comes-wider g j k h end after (holds rule.condition) (tree_of form rule.left) (tree_of form rule.right) (string_bytes rule.name) found n before kept (now.origin n past before was);
          },
          begins-within k.image.stored h.image.stored after.stored n kept,
        )
    | inr past_it ↦ each-came all g (λ r c. sub r (inr c)) (extends-then g e f start (extends-takes e f first.takes)) (extends-then g j k end now.extends) (extends-then _ _ _ between now.extends) more later n past_it lt new
  ]

  pub rules-came : (rules : List (Rewrite L C)) (g h : Graph) → AppliesRules (SearchesRule form) applies rules g h → (n : ℕ) → length g.image.entries ≤ n → n < length h.image.entries → step_at h.image.entries n ≡ explicit → Came rules g h n
  rules-came rules g h a n past lt new =
      let same : length a.searched.image.entries ≡ length g.image.entries = ap (λ (x : Image). length x.entries) (searches-same a.by_searches) in
      each-came rules g (λ r c. Contains-In rules r c) (extends-itself g) (searches-extend a.by_searches) (extends-itself a.searched) a.by_searches a.by_applies n (omega (arith, past, same)) lt new

  -- a search for the first of some rules
  searched-first : {rules : List (Rewrite L C)} {e i : Graph} {founds : List (List Values)} → SearchesAll (SearchesRule form) rules e founds i → (r : Rewrite L C) (rs : List (Rewrite L C)) (x : List Values) (xs : List (List Values)) → rules ≡ r ∷ rs → founds ≡ x ∷ xs →
      (f : Graph) × SearchesRule form r e x f × SearchesAll (SearchesRule form) rs f xs i
  searched-first none_searched r rs x xs is found_is = absurd (omega (arith, ap length is))
  searched-first (one_searched {rule = rule} {rules = rules} {g = e} {f = f} {h = i} {found = found} {more = founds} first more) r rs x xs is found_is =
      let same : rule ≡ r = ap (λ l. slice_index_or l 0 rule) is in
      let those : rules ≡ rs = ap (λ l. drop 1 l) is in
      let what : found ≡ x = ap (λ l. slice_index_or l 0 found) found_is in
      let others : founds ≡ xs = ap (λ l. drop 1 l) found_is in (
        f,
        subst (λ y. SearchesRule form r e y f) what (subst (λ y. SearchesRule form y e found f) same first),
        subst (λ ys. SearchesAll (SearchesRule form) rs f ys i) others (subst (λ ys. SearchesAll (SearchesRule form) ys f founds i) those more),
      )

  -- the first rules were applied to what their searches found, and the next one breaks off: searches from e on, and applies from j on, both later than g
  each-stopped : (refuses : C → Values → Graph → Error → Type 0) (all : List (Rewrite L C)) (g : Graph) {before : List (Rewrite L C)} {done : List (List Values)} {j m : Graph} → AppliesAll applies before done j m →
      (rule : Rewrite L C) (after : List (Rewrite L C)) (found : List Values) (left : List (List Values)) (e i h : Graph) (x : Error) → ((r : Rewrite L C) → In r (before ++ rule ∷ after) → Contains all r) → ExtendsTo g e → ExtendsTo g j → ExtendsTo i j →
      SearchesAll (SearchesRule form) (before ++ rule ∷ after) e (done ++ found ∷ left) i → BreaksRule form holds refuses rule found m h x →
      ExtendsTo j h × ((n : ℕ) → length j.image.entries ≤ n → n < length h.image.entries → step_at h.image.entries n ≡ explicit → Came all g h n)
  each-stopped refuses all g (none_applied {g = j}) rule after found left e i h x sub start end between searched stops =
      let s = searched-first searched rule after found left refl refl in (
        stops.extends,
        λ n past lt new. (
          record {
            rule = rule;
            is_one = sub rule (inl refl);
            before = e;
            after = s.0;
            found = found;
            start = start;
            searched = s.1;
            end = extends-then s.0 i h (searches-extend s.2) (extends-then i j h between stops.extends);
            comes = comes-wider g j h h end (extends-itself h) (holds rule.condition) (tree_of form rule.left) (tree_of form rule.right) (string_bytes rule.name) found n lt (omega (arith, lt, stored-length h stops.graph)) (stops.origin n past lt new);
          },
          omega (arith, lt, stored-length h stops.graph),
        ),
      )
  each-stopped refuses all g (one_applied {rule = first_rule} {rules = before} {g = j} {f = k} {found = first_found} {more = done} now later) rule after found left e i h x sub start end between searched stops =
      let s = searched-first searched first_rule (before ++ rule ∷ after) first_found (done ++ found ∷ left) refl refl in
      let rest = each-stopped refuses all g later rule after found left s.0 i h x (λ r c. sub r (inr c)) (extends-then g e s.0 start (extends-takes e s.0 s.1.takes)) (extends-then g j k end now.extends) (extends-then i j k between now.extends) s.2 stops in (
        extends-then j k h now.extends rest.0,
        λ n past lt new. elim (cases_lt n (length k.image.entries)) [
          | inl earlier ↦
              let was : step_at k.image.entries n ≡ explicit = step-before k h rest.0 n earlier new in
              let kept : n < length k.image.stored = omega (arith, earlier, stored-length k now.graph) in (
                record {
                  rule = first_rule;
                  is_one = sub first_rule (inl refl);
                  before = e;
                  after = s.0;
                  found = first_found;
                  start = start;
                  searched = s.1;
                  end = extends-then s.0 i h (searches-extend s.2) (extends-then i j h between (extends-then j k h now.extends rest.0));
                  comes = comes-wider g j k h end rest.0 (holds first_rule.condition) (tree_of form first_rule.left) (tree_of form first_rule.right) (string_bytes first_rule.name) first_found n earlier kept (now.origin n past earlier was);
                },
                begins-within k.image.stored h.image.stored rest.0.stored n kept,
              )
          | inr past_it ↦ rest.1 n past_it lt new
        ],
      )

  -- so where a rule was refused, what was asserted before comes from the rules, too
  pub refused-came : (refuses : C → Values → Graph → Error → Type 0) (rules : List (Rewrite L C)) (g h : Graph) (e : Error) → RefusesRules (SearchesRule form) (λ _ _ _ _. ⊥) applies (BreaksRule form holds refuses) rules g h e →
      ExtendsTo g h × ((n : ℕ) → length g.image.entries ≤ n → n < length h.image.entries → step_at h.image.entries n ≡ explicit → Came rules g h n)
  refused-came refuses rules g h e (search_refused stops) = absurd stops.refused
  refused-came refuses rules g h e (apply_refused founds searched by_searches stops) =
      let same : length searched.image.entries ≡ length g.image.entries = ap (λ (x : Image). length x.entries) (searches-same by_searches) in
      let later = searches-extend by_searches in
      let all = subst (λ rs. SearchesAll (SearchesRule form) rs g (stops.done ++ stops.found ∷ stops.left) searched) stops.whole (subst (λ fs. SearchesAll (SearchesRule form) rules g fs searched) stops.all_found by_searches) in
      let each = each-stopped refuses rules g stops.applied stops.rule stops.after stops.found stops.left g searched h e (λ r c. subst (λ rs. Contains rs r) (sym stops.whole) (Contains-In (stops.before ++ stops.rule ∷ stops.after) r c)) (extends-itself g) later (extends-itself searched) all stops.refused in
      (extends-then g searched h later each.0, λ n past lt new. each.1 n (omega (arith, past, same)) lt new)

  pub refused-origins : (refuses : C → Values → Graph → Error → Type 0) (rules : List (Rewrite L C)) (g h : Graph) (e : Error) → RefusesRules (SearchesRule form) (λ _ _ _ _. ⊥) applies (BreaksRule form holds refuses) rules g h e → AreFromRules form holds rules g h
  refused-origins refuses rules g h e refused n past lt new = ((refused-came refuses rules g h e refused).1 n past lt new).0

  -- what is counted is applied
  united-applied : {rules : List (Rewrite L C)} {each : List (List Values × ℕ)} {g h : Graph} → AppliesAll (UnitesRule form holds) rules each g h → AppliesAll applies rules (map (λ k. k.0) each) g h
  united-applied each = applied-keys (λ (k : List Values × ℕ). k.0) (UnitesRule form holds) applies (λ r k a b united. united.0) each

  pub counted-rules : (rules : List (Rewrite L C)) (g : Graph) (counts : List RuleCounts) (h : Graph) → CountsRules form holds rules g counts h → AppliesRules (SearchesRule form) applies rules g h
  counted-rules rules g counts h c = record { searched = c.searched; found = map (λ k. k.0) c.each; by_searches = c.by_searches; by_applies = united-applied c.by_applies }

  -- rules, and then edits, which extend the graph
  module _ (after : Graph → Graph → Type 0) (extends : (g h : Graph) → after g h → ExtendsTo g h) (rules : List (Rewrite L C)) (g h : Graph) where
    abbrev Then : Type 0
    Then = ThenModifies (AppliesRules (SearchesRule form) applies rules) after g h

    pub then-extends : Then → ExtendsTo g h
    then-extends led = extends-then g led.applied h (rules-extend rules g led.applied led.by_rules) (extends led.applied h led.by_edits)

    pub then-came : Then → (n : ℕ) → length g.image.entries ≤ n → n < length h.image.entries → step_at h.image.entries n ≡ explicit → Came rules g h n ⊎ ComesFromEdits after g h n
    then-came led n past lt new =
        let f = led.applied in
        let later : ExtendsTo f h = extends f h led.by_edits in
        elim (cases_lt n (length f.image.entries)) [
          | inl before ↦ inl (came-wider rules g g f h (extends-itself g) later n before (rules-came rules g f led.by_rules n past before (step-before f h later n before new)))
          | inr past_it ↦ inr (record {
            before = f;
            left = h;
            by_edits = led.by_edits;
            start = rules-extend rules g f led.by_rules;
            end = extends-itself h;
            past = past_it;
            within = lt;
          })
        ]

    -- what `apply_rewrites` leaves says where its entries come from
    pub rules-or-edits : Then → AreFromRulesOrEdits form holds rules after g h
    rules-or-edits led n past lt new = elim (then-came led n past lt new) [
      | inl c ↦ inl c.0
      | inr c ↦ inr c
    ]

    -- and so does what `apply_counted` leaves
    pub counted-or-edits : (counts : List RuleCounts) → CountsAndModifies form holds rules after g counts h → AreFromRulesOrEdits form holds rules after g h
    counted-or-edits counts c = rules-or-edits (record { applied = c.applied; by_rules = counted-rules rules g counts c.applied c.by_rules; by_edits = c.by_edits })
