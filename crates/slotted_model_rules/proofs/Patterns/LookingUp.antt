-- Look-ups of patterns: they move with names, a term as a pattern is looked up as the term, and at rest a pattern is looked up as what it matches by rows.
use Rattle.std.proofs.Common.{◌≡◌, ◌↔◌, ℕ, List, Some, sym, ◌∙◌, ap, refl, subst}
use Rattle.std.specs.Prelude.{option_map, option_and_then}
use Rattle.std.proofs.Math.Path.{fun_ext}
use Rattle.slotted_lists.proofs.Options.{Some-same}
use Rattle.slotted_theory.specs.Term.{Args, Term, done, name, child, bind}
use Rattle.slotted_theory.specs.Nameless.{DArgs, DTerm, stop, place, sub, scope, extend, lift, nameless_args, nameless_by, moved_args}
use Rattle.slotted_theory.specs.Renaming.{IsInjective}
use Rattle.slotted_theory.proofs.Names.{lift-extend, lift-injective, extend-injective}
use Rattle.slotted_theory.proofs.Values.{node, child_before}
use Rattle.slotted_model.specs.Applied.{Applied, renamed_id, as_term, applied_of, EachChild}
use Rattle.slotted_model.specs.Find.{used_slots, find, Linked}
use Rattle.slotted_model.specs.LookUp.{both, look_up_args}
use Rattle.slotted_model.specs.Normal.{normal_args}
use Rattle.slotted_model.specs.State.{Row, State, look_up_node, look_up_tree}
use Rattle.slotted_model.specs.Rest.{IsValidIn, AtRest}
use Rattle.slotted_model.proofs.Rebuilding.Answers.{RowAnswer, answer-row}
use Rattle.slotted_model.proofs.Finds.Congruence.{child-applied}
use Rattle.slotted_model.proofs.Represented.LookUps.{place-moved, scope-moved, child-moved, answer-moved}
use Rattle.slotted_model.proofs.Finds.NormalIds.{found-valid, found-again, full-is_valid}
use Rattle.slotted_model.proofs.Data.Options.{None-Some, option_map-some, both-some, and_then-some}
use Rattle.slotted_model.proofs.Represented.RenamedIds.{valid-renamed}
use Rattle.slotted_model.proofs.Rebuilding.RowNodes.{row_node, row-normal, row-again, row-looked_up}
use Rattle.slotted_model.proofs.Rebuilding.Rows.{look_up_node-moved}
use Rattle.slotted_model.proofs.Finds.NormalIds.{found-renamed}
use Rattle.slotted_model_rules.specs.Patterns.{Pattern, PatternArgs, pattern_node, variable, replacing, no_argument, own_name, child_pattern, binding, EachVariable, EachVariableIn, look_up_pattern, look_up_arguments, pattern_args, pattern_of, IsOfRow, Matches, MatchesArguments}
use Rattle.slotted_model_rules.proofs.Substitutions.Renamed.{renamed-twice, applied-as_term}

module _ (g : State) (rest : AtRest g) where
  abbrev linked : Linked g.nodes g.found
  linked = rest.sane.sound.linked

  mutual
    -- a look-up moves with names
    pub pattern-moved : (f : ℕ → ℕ) → IsInjective f → (ρ : ℕ → ℕ) (σ : List ℕ → Applied) (p : Pattern) → look_up_pattern g (λ x. f (ρ x)) σ p ≡ option_map (renamed_id f) (look_up_pattern g ρ σ p)
    pattern-moved f inj ρ σ (pattern_node op payloads args) =
        ap (option_and_then (λ found. look_up_node g (node op payloads found))) (arguments-moved f inj ρ σ args)
        ∙ answer-moved (look_up_node g) (look_up_node-moved g linked rest.sane.filed) f inj op payloads (look_up_arguments g ρ σ args)
    pattern-moved f inj ρ σ (variable v) = ap Some (ap (find g.found) (sym (renamed-twice f ρ (σ v))) ∙ found-renamed g.found f (renamed_id ρ (σ v)))
    pattern-moved f inj ρ σ (replacing body part value) = refl

    arguments-moved : (f : ℕ → ℕ) → IsInjective f → (ρ : ℕ → ℕ) (σ : List ℕ → Applied) (args : PatternArgs) → look_up_arguments g (λ x. f (ρ x)) σ args ≡ option_map (moved_args f) (look_up_arguments g ρ σ args)
    arguments-moved f inj ρ σ no_argument = refl
    arguments-moved f inj ρ σ (own_name x rest_args) =
        ap (option_map (place (f (ρ x)))) (arguments-moved f inj ρ σ rest_args) ∙ place-moved f (ρ x) (look_up_arguments g ρ σ rest_args)
    arguments-moved f inj ρ σ (child_pattern p rest_args) =
        (λ i. both (λ a found. child_before (as_term a) found) (pattern-moved f inj ρ σ p i) (arguments-moved f inj ρ σ rest_args i))
        ∙ child-moved f (look_up_pattern g ρ σ p) (look_up_arguments g ρ σ rest_args)
    arguments-moved f inj ρ σ (binding x inner rest_args) =
        let e : look_up_arguments g (extend x (λ z. f (ρ z))) σ inner ≡ option_map (moved_args (lift f)) (look_up_arguments g (extend x ρ) σ inner) =
        ap (λ r. look_up_arguments g r σ inner) (sym (fun_ext (lift-extend f x ρ))) ∙ arguments-moved (lift f) (lift-injective f inj) (extend x ρ) σ inner in
        (λ i. both scope (e i) (arguments-moved f inj ρ σ rest_args i))
        ∙ scope-moved f (look_up_arguments g (extend x ρ) σ inner) (look_up_arguments g ρ σ rest_args)

-- a term as a pattern is looked up as the term
term-arguments : (g : State) (ρ : ℕ → ℕ) (σ : List ℕ → Applied) (a : Args) → look_up_arguments g ρ σ (pattern_args a) ≡ look_up_args (look_up_node g) (nameless_args ρ a)
term-arguments g ρ σ done = refl
term-arguments g ρ σ (name x rest) = ap (option_map (place (ρ x))) (term-arguments g ρ σ rest)
term-arguments g ρ σ (child op payloads args rest) =
    λ i. both (λ a found. child_before (as_term a) found) (option_and_then (λ found. look_up_node g (node op payloads found)) (term-arguments g ρ σ args i)) (term-arguments g ρ σ rest i)
term-arguments g ρ σ (bind x inner rest) = λ i. both scope (term-arguments g (extend x ρ) σ inner i) (term-arguments g ρ σ rest i)

pub term-pattern : (g : State) (ρ : ℕ → ℕ) (σ : List ℕ → Applied) (t : Term) → look_up_pattern g ρ σ (pattern_of t) ≡ look_up_tree g (nameless_by ρ t)
term-pattern g ρ σ t = ap (option_and_then (λ found. look_up_node g (node t.op t.payloads found))) (term-arguments g ρ σ t.args)

-- a valid id in normal form
abbrev pub IsFoundId : State → Applied → Type 0
IsFoundId g a = IsValidIn g a × (find g.found a ≡ a)

-- children in normal form are left as they are
pub found-args : (g : State) (d : DArgs) → EachChild (IsFoundId g) d → normal_args g.found d ≡ d
found-args g stop c = refl
found-args g (place x rest) c = ap (place x) (found-args g rest c)
found-args g (sub op payloads args rest) c =
    let e : as_term (find g.found (applied_of payloads args)) ≡ node op payloads args =
    ap (λ a. as_term (find g.found a)) (child-applied (IsFoundId g) op payloads args c.0) ∙ (ap as_term c.0.2.1 ∙ sym c.0.1) in
    λ i. child_before (e i) (found-args g rest c.1 i)
found-args g (scope inner rest) c = λ i. scope (found-args g inner c.0 i) (found-args g rest c.1 i)

module _ (g : State) (rest : AtRest g) (σ : List ℕ → Applied) where
  abbrev finds : Linked g.nodes g.found
  finds = rest.sane.sound.linked

  mutual
    -- what matches is looked up
    pub matched-pattern : (ρ : ℕ → ℕ) (p : Pattern) (a : Applied) → Matches g ρ σ p a → look_up_pattern g ρ σ p ≡ Some (find g.found a)
    matched-pattern ρ (pattern_node op payloads args) a m =
        let r : Row = m.0 in
        let b : Applied = m.1 in
        let of : IsOfRow g r b a = m.2 in
        ap (option_and_then (λ found. look_up_node g (node op payloads found))) (matched-arguments ρ args (row_node r b).args m.5)
        ∙ ((λ i. look_up_node g (node (sym m.3 i) (sym m.4 i) (normal_args g.found (row_node r b).args)))
        ∙ (ap (look_up_node g) (row-again g rest r of.filed b of.full of.source) ∙ (row-looked_up g rest r of.filed b of.full of.source ∙ ap Some of.same)))
    matched-pattern ρ (variable v) a m = ap Some m
    matched-pattern ρ (replacing body part value) a m = absurd m

    matched-arguments : (ρ : ℕ → ℕ) (args : PatternArgs) (e : DArgs) → MatchesArguments g ρ σ args e → look_up_arguments g ρ σ args ≡ Some (normal_args g.found e)
    matched-arguments ρ no_argument e m = ap (λ d. Some (normal_args g.found d)) (sym m)
    matched-arguments ρ (own_name x rest_args) e m =
        ap (option_map (place (ρ x))) (matched-arguments ρ rest_args m.0 m.2) ∙ ap (λ d. Some (normal_args g.found d)) (sym m.1)
    matched-arguments ρ (child_pattern p rest_args) e m =
        (λ i. both (λ a found. child_before (as_term a) found) (matched-pattern ρ p m.0 m.3 i) (matched-arguments ρ rest_args m.1 m.4 i))
        ∙ (ap (λ a. Some (child_before (as_term (find g.found a)) (normal_args g.found m.1))) (sym (applied-as_term m.0)) ∙ ap (λ d. Some (normal_args g.found d)) (sym m.2))
    matched-arguments ρ (binding x inner rest_args) e m =
        (λ i. both scope (matched-arguments (extend x ρ) inner m.0 m.3 i) (matched-arguments ρ rest_args m.1 m.4 i))
        ∙ ap (λ d. Some (normal_args g.found d)) (sym m.2)

  mutual
    -- what is looked up matches
    pub looked-pattern : (ρ : ℕ → ℕ) → IsInjective ρ → (p : Pattern) → EachVariable (λ v. IsValidIn g (σ v)) p → (x : Applied) → look_up_pattern g ρ σ p ≡ Some x →
        IsFoundId g x × ((a : Applied) → find g.found a ≡ x → Matches g ρ σ p a)
    looked-pattern ρ inj (pattern_node op payloads args) h x e =
        let q : (found : DArgs) × (look_up_arguments g ρ σ args ≡ Some found) × (look_up_node g (node op payloads found) ≡ Some x) =
        and_then-some (λ found. look_up_node g (node op payloads found)) (look_up_arguments g ρ σ args) x e in
        let n : DTerm = node op payloads q.0 in
        let inside : EachChild (IsFoundId g) q.0 × MatchesArguments g ρ σ args q.0 = looked-arguments ρ inj args h q.0 q.1 in
        let r : RowAnswer g n x = answer-row g rest n x q.2 in
        let valid : IsValidIn g r.id = full-is_valid g.nodes g.found finds r.id r.full in
        let same : row_node r.row r.id ≡ n = row-normal g rest r.row r.filed r.id r.source ∙ (r.same ∙ ap (node op payloads) (found-args g q.0 inside.0)) in
        let form : IsFoundId g x = subst (IsFoundId g) r.found (found-valid g.nodes g.found finds r.id valid, found-again g.nodes g.found finds r.id valid) in (
          form,
          λ a f. (
            r.row,
            r.id,
            record { filed = r.filed; full = r.full; source = r.source; same = r.found ∙ sym f },
            ap (λ (t : DTerm). t.op) same,
            ap (λ (t : DTerm). t.payloads) same,
            subst (λ (t : DTerm). MatchesArguments g ρ σ args t.args) (sym same) inside.1,
          ),
        )
    looked-pattern ρ inj (variable v) h x e =
        let b : Applied = renamed_id ρ (σ v) in
        let valid : IsValidIn g b = valid-renamed (used_slots g.found) g.nodes ρ inj (σ v) h in
        let found : find g.found b ≡ x = Some-same (find g.found b) x e in
        (subst (IsFoundId g) found (found-valid g.nodes g.found finds b valid, found-again g.nodes g.found finds b valid), λ a f. found ∙ sym f)
    looked-pattern ρ inj (replacing body part value) h x e = absurd (None-Some x e)

    pub looked-arguments : (ρ : ℕ → ℕ) → IsInjective ρ → (args : PatternArgs) → EachVariableIn (λ v. IsValidIn g (σ v)) args → (d : DArgs) → look_up_arguments g ρ σ args ≡ Some d →
        EachChild (IsFoundId g) d × MatchesArguments g ρ σ args d
    looked-arguments ρ inj no_argument h d e =
        let q : stop ≡ d = Some-same stop d e in
        (subst (EachChild (IsFoundId g)) q tt, sym q)
    looked-arguments ρ inj (own_name x rest_args) h d e =
        let r : (f : DArgs) × (look_up_arguments g ρ σ rest_args ≡ Some f) × (place (ρ x) f ≡ d) = option_map-some (place (ρ x)) (look_up_arguments g ρ σ rest_args) d e in
        let k : EachChild (IsFoundId g) r.0 × MatchesArguments g ρ σ rest_args r.0 = looked-arguments ρ inj rest_args h r.0 r.1 in
        (subst (EachChild (IsFoundId g)) r.2 k.0, (r.0, sym r.2, k.1))
    looked-arguments ρ inj (child_pattern p rest_args) h d e =
        let r : (a : Applied) × (f : DArgs) × (look_up_pattern g ρ σ p ≡ Some a) × (look_up_arguments g ρ σ rest_args ≡ Some f) × (child_before (as_term a) f ≡ d) =
        both-some (λ a found. child_before (as_term a) found) (look_up_pattern g ρ σ p) (look_up_arguments g ρ σ rest_args) d e in
        let c : IsFoundId g r.0 × ((a : Applied) → find g.found a ≡ r.0 → Matches g ρ σ p a) = looked-pattern ρ inj p h.0 r.0 r.2 in
        let k : EachChild (IsFoundId g) r.1 × MatchesArguments g ρ σ rest_args r.1 = looked-arguments ρ inj rest_args h.1 r.1 r.3 in
        (subst (EachChild (IsFoundId g)) r.4 ((r.0, refl, c.0), k.0), (r.0, r.1, sym r.4, c.1 r.0 c.0.1, k.1))
    looked-arguments ρ inj (binding x inner rest_args) h d e =
        let r : (i : DArgs) × (f : DArgs) × (look_up_arguments g (extend x ρ) σ inner ≡ Some i) × (look_up_arguments g ρ σ rest_args ≡ Some f) × (scope i f ≡ d) =
        both-some scope (look_up_arguments g (extend x ρ) σ inner) (look_up_arguments g ρ σ rest_args) d e in
        let c : EachChild (IsFoundId g) r.0 × MatchesArguments g (extend x ρ) σ inner r.0 = looked-arguments (extend x ρ) (extend-injective x ρ inj) inner h.0 r.0 r.2 in
        let k : EachChild (IsFoundId g) r.1 × MatchesArguments g ρ σ rest_args r.1 = looked-arguments ρ inj rest_args h.1 r.1 r.3 in
        (subst (EachChild (IsFoundId g)) r.4 (c.0, k.0), (r.0, r.1, sym r.4, c.1, k.1))

  -- at rest a pattern is looked up as what an id finds exactly if it matches the id by rows
  pub matches-look_ups : (ρ : ℕ → ℕ) → IsInjective ρ → (p : Pattern) → EachVariable (λ v. IsValidIn g (σ v)) p → (a : Applied) → (look_up_pattern g ρ σ p ≡ Some (find g.found a)) ↔ Matches g ρ σ p a
  matches-look_ups ρ inj p h a = (λ e. (looked-pattern ρ inj p h (find g.found a) e).1 a refl, matched-pattern ρ p a)
