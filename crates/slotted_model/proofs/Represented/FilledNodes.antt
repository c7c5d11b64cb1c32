-- Nodes whose children are filled: there is one for any names to avoid, and it has the normal form that the node had.
use Rattle.std.proofs.Common.{◌≡◌, ℕ, suc, List, ◌∷◌, sym, ◌∙◌, ap, refl, subst}
use Rattle.std.specs.Prelude.{map}
use Rattle.slotted_theory.specs.Nameless.{DArgs, DTerm, stop, place, sub, scope}
use Rattle.slotted_theory.proofs.Values.{node, child_before}
use Rattle.slotted_model.specs.Applied.{Applied, as_term, applied_of, EachChild, IsApplied}
use Rattle.slotted_model.specs.Classes.{IsFull}
use Rattle.slotted_model.specs.Filling.{IsValid, FillsArgs, FillsNode}
use Rattle.slotted_model.specs.Find.{Entry, used_slots, find, Linked}
use Rattle.slotted_model.specs.Normal.{normal_args, normal, EqualInTurn}
use Rattle.slotted_model.proofs.Finds.Congruence.{child-applied}
use Rattle.slotted_model.proofs.Represented.Fillings.{a_filling}
use Rattle.slotted_model.proofs.Finds.NormalIds.{filling-found}

-- a child is the applied id that it says
child-says : (P : Applied → Type 0) (op : ℕ) (payloads : List (List ℕ)) (args : DArgs) → IsApplied P (node op payloads args) → P (applied_of payloads args)
child-says P op payloads args c = subst P (sym (child-applied P op payloads args c)) c.2

filled-args : (nodes : List DTerm) (slots : ℕ → List ℕ) (given : List ℕ) (d : DArgs) → EachChild (IsValid slots nodes) d → (e : DArgs) × FillsArgs nodes given d e
filled-args nodes slots given stop v = (stop, refl)
filled-args nodes slots given (place x rest) v = let r = filled-args nodes slots given rest v in (place x r.0, (r.0, refl, r.1))
filled-args nodes slots given (sub op payloads args rest) v =
    let b = a_filling nodes slots given (applied_of payloads args) (child-says (IsValid slots nodes) op payloads args v.0) in
    let r = filled-args nodes slots given rest v.1 in
    (child_before (as_term b.0) r.0, (b.0, r.0, refl, b.1, r.1))
filled-args nodes slots given (scope inner rest) v =
    let i = filled-args nodes slots (0 ∷ map suc given) inner v.0 in
    let r = filled-args nodes slots given rest v.1 in
    (scope i.0 r.0, (i.0, r.0, refl, i.1, r.1))

pub a_filled_node : (nodes : List DTerm) (slots : ℕ → List ℕ) (given : List ℕ) (d : DTerm) → EachChild (IsValid slots nodes) d.args → (e : DTerm) × FillsNode nodes given d e
a_filled_node nodes slots given d v =
    let r = filled-args nodes slots given d.args v in
    (node d.op d.payloads r.0, record { operator = refl; payloads = refl; children = r.1 })

full-args : (nodes : List DTerm) (given : List ℕ) (d e : DArgs) → FillsArgs nodes given d e → EachChild (IsFull nodes) e
full-args nodes given stop e f = subst (EachChild (IsFull nodes)) (sym f) tt
full-args nodes given (place x rest) e f = subst (EachChild (IsFull nodes)) (sym f.1) (full-args nodes given rest f.0 f.2)
full-args nodes given (sub op payloads args rest) e f =
    subst (EachChild (IsFull nodes)) (sym f.2) ((f.0, refl, f.3.full), full-args nodes given rest f.1 f.4)
full-args nodes given (scope inner rest) e f =
    subst (EachChild (IsFull nodes)) (sym f.2) (full-args nodes (0 ∷ map suc given) inner f.0 f.3, full-args nodes given rest f.1 f.4)

pub filled-full : (nodes : List DTerm) (given : List ℕ) (d e : DTerm) → FillsNode nodes given d e → EachChild (IsFull nodes) e.args
filled-full nodes given d e f = full-args nodes given d.args e.args f.children

-- children that find alike in turn have one normal form
in_turn-args : (found : List Entry) (d e : DArgs) → EqualInTurn found d e → normal_args found d ≡ normal_args found e
in_turn-args found stop e f = ap (normal_args found) (sym f)
in_turn-args found (place x rest) e f = ap (place x) (in_turn-args found rest f.0 f.2) ∙ ap (normal_args found) (sym f.1)
in_turn-args found (sub op payloads args rest) e f =
    let b : Applied = f.0 in
    let own : applied_of (as_term b).payloads (as_term b).args ≡ b = child-applied (λ c. c ≡ b) (as_term b).op (as_term b).payloads (as_term b).args (b, refl, refl) in
    let same : find found (applied_of payloads args) ≡ find found (applied_of (as_term b).payloads (as_term b).args) = f.3 ∙ ap (find found) (sym own) in
    (λ i. child_before (as_term (same i)) (in_turn-args found rest f.1 f.4 i)) ∙ ap (normal_args found) (sym f.2)
in_turn-args found (scope inner rest) e f = (λ i. scope (in_turn-args found inner f.0 f.3 i) (in_turn-args found rest f.1 f.4 i)) ∙ ap (normal_args found) (sym f.2)

pub in_turn-normal : (found : List Entry) (d e : DTerm) → d.op ≡ e.op → d.payloads ≡ e.payloads → EqualInTurn found d.args e.args → normal found d ≡ normal found e
in_turn-normal found d e op payloads f = λ i. node (op i) (payloads i) (in_turn-args found d.args e.args f i)

-- a child and what fills it find alike
filled-in_turn : (nodes : List DTerm) (found : List Entry) → Linked nodes found → (given : List ℕ) (d e : DArgs) →
    EachChild (IsValid (used_slots found) nodes) d → FillsArgs nodes given d e → EqualInTurn found d e
filled-in_turn nodes found linked given stop e v f = f
filled-in_turn nodes found linked given (place x rest) e v f = (f.0, f.1, filled-in_turn nodes found linked given rest f.0 v f.2)
filled-in_turn nodes found linked given (sub op payloads args rest) e v f = (
  f.0,
  f.1,
  f.2,
  filling-found nodes found linked given (applied_of payloads args) f.0 (child-says (IsValid (used_slots found) nodes) op payloads args v.0) f.3,
  filled-in_turn nodes found linked given rest f.1 v.1 f.4,
)
filled-in_turn nodes found linked given (scope inner rest) e v f =
    (f.0, f.1, f.2, filled-in_turn nodes found linked (0 ∷ map suc given) inner f.0 v.0 f.3, filled-in_turn nodes found linked given rest f.1 v.1 f.4)

pub filled-normal : (nodes : List DTerm) (found : List Entry) → Linked nodes found → (given : List ℕ) (d e : DTerm) →
    EachChild (IsValid (used_slots found) nodes) d.args → FillsNode nodes given d e → normal found e ≡ normal found d
filled-normal nodes found linked given d e v f =
    sym (in_turn-normal found d e (sym f.operator) (sym f.payloads) (filled-in_turn nodes found linked given d.args e.args v f.children))
