-- A look-up as a value: a tree is looked up exactly if its value from the bottom up is an applied id.
use Rattle.std.proofs.Common.{◌≡◌, ◌↔◌, ℕ, ◌<◌, List, Option, Some, None, sym, ◌∙◌, ap, refl, subst, arith}
use Rattle.std.specs.Prelude.{option_map, option_and_then}
use Rattle.slotted_lists.proofs.Options.{Some-same}
use Rattle.slotted_theory.specs.Nameless.{DArgs, DTerm, stop, place, sub, scope, moved}
use Rattle.slotted_theory.specs.FiniteMaps.{filled}
use Rattle.slotted_theory.proofs.Values.{node, child_before, value_args, value}
use Rattle.slotted_model.specs.Applied.{Applied, renamed_id, as_term, applied_of, EachChild}
use Rattle.slotted_model.specs.Trees.{HasNoIds, IsTree}
use Rattle.slotted_model.specs.Classes.{canonical_node, IsFull, Canonical}
use Rattle.slotted_model.specs.LookUp.{both, look_up_args, look_up, answer_or, found_or}
use Rattle.slotted_model.specs.Ids.{id_of_node, id_of}
use Rattle.slotted_model.proofs.Data.Options.{and_then-some, option_map-some, both-some}
use Rattle.slotted_model.proofs.Represented.Children.{EachChild-map, zip-places, moved-as_term}
use Rattle.slotted_model.proofs.Represented.Full.{full-children}
use Rattle.slotted_model.proofs.Represented.Ids.{Stands, id_of_node-some}

-- different applied ids are different terms
pub as_term-same : (a b : Applied) → as_term a ≡ as_term b → a ≡ b
as_term-same a b e =
    ap (λ m. (a.0, m)) (sym (zip-places a.1)) ∙ (ap (λ (t : DTerm). applied_of t.payloads t.args) e ∙ ap (λ m. (b.0, m)) (zip-places b.1))

answer_or-moved : (f : ℕ → ℕ) (o : Option Applied) (d : DTerm) → answer_or (option_map (renamed_id f) o) (moved f d) ≡ moved f (answer_or o d)
answer_or-moved f None d = refl
answer_or-moved f (Some a) d = sym (moved-as_term f a)

-- what is looked up is the value
value_args-found : (look : DTerm → Option Applied) (d e : DArgs) → look_up_args look d ≡ Some e → value_args (found_or look) d ≡ e
value_args-found look stop e p = Some-same stop e p
value_args-found look (place x rest) e p =
    let r : (f : DArgs) × (look_up_args look rest ≡ Some f) × (place x f ≡ e) = option_map-some (place x) (look_up_args look rest) e p in
    ap (place x) (value_args-found look rest r.0 r.1) ∙ r.2
value_args-found look (sub op payloads args rest) e p =
    let answer : Option DArgs → Option Applied = option_and_then (λ found. look (node op payloads found)) in
    let r : (a : Applied) × (f : DArgs) × (answer (look_up_args look args) ≡ Some a) × (look_up_args look rest ≡ Some f) × (child_before (as_term a) f ≡ e) =
    both-some (λ a found. child_before (as_term a) found) (answer (look_up_args look args)) (look_up_args look rest) e p in
    let q : (b : DArgs) × (look_up_args look args ≡ Some b) × (look (node op payloads b) ≡ Some r.0) = and_then-some (λ found. look (node op payloads found)) (look_up_args look args) r.0 r.2 in
    let n : node op payloads (value_args (found_or look) args) ≡ node op payloads q.0 = ap (node op payloads) (value_args-found look args q.0 q.1) in
    let w : found_or look (node op payloads (value_args (found_or look) args)) ≡ as_term r.0 = ap (found_or look) n ∙ ap (λ o. answer_or o (node op payloads q.0)) q.2 in
    (λ i. child_before (w i) (value_args-found look rest r.1 r.3 i)) ∙ r.4
value_args-found look (scope inner rest) e p =
    let r : (a : DArgs) × (f : DArgs) × (look_up_args look inner ≡ Some a) × (look_up_args look rest ≡ Some f) × (scope a f ≡ e) = both-some scope (look_up_args look inner) (look_up_args look rest) e p in
    (λ i. scope (value_args-found look inner r.0 r.2 i) (value_args-found look rest r.1 r.3 i)) ∙ r.4

pub value-found : (look : DTerm → Option Applied) (t : DTerm) (a : Applied) → look_up look t ≡ Some a → value (found_or look) t ≡ as_term a
value-found look t a p =
    let q : (b : DArgs) × (look_up_args look t.args ≡ Some b) × (look (node t.op t.payloads b) ≡ Some a) = and_then-some (λ found. look (node t.op t.payloads found)) (look_up_args look t.args) a p in
    ap (λ args. found_or look (node t.op t.payloads args)) (value_args-found look t.args q.0 q.1) ∙ ap (λ o. answer_or o (node t.op t.payloads q.0)) q.2

-- each child is some applied id
abbrev pub AllIds : DArgs → Type 0
AllIds d = EachChild (λ a. Unit {0}) d

-- only nodes over applied ids have an answer
abbrev pub AnswersNodes : (DTerm → Option Applied) → Type 0
AnswersNodes look = (d : DTerm) (a : Applied) → look d ≡ Some a → AllIds d.args

-- where the value of a node of the language is an applied id, that is the answer for the node
answered : (look : DTerm → Option Applied) (d : DTerm) (a : Applied) → 0 < d.op → found_or look d ≡ as_term a → look d ≡ Some a
answered look d a h e = go (look d) refl
  where
    go : (o : Option Applied) → look d ≡ o → look d ≡ Some a
    go None p =
        let z : d.op ≡ 0 = ap (λ (t : DTerm). t.op) (sym (ap (λ o. answer_or o d) p) ∙ e) in
        absurd (omega arith)
    go (Some b) p = p ∙ ap Some (as_term-same b a (sym (ap (λ o. answer_or o d) p) ∙ e))

look_up_args-value : (look : DTerm → Option Applied) → AnswersNodes look → (d : DArgs) → HasNoIds d → AllIds (value_args (found_or look) d) → look_up_args look d ≡ Some (value_args (found_or look) d)
look_up_args-value look law stop h c = refl
look_up_args-value look law (place x rest) h c = ap (option_map (place x)) (look_up_args-value look law rest h c)
look_up_args-value look law (sub op payloads args rest) h c =
    let n : DTerm = node op payloads (value_args (found_or look) args) in
    let p : look n ≡ Some c.0.0 = answered look n c.0.0 h.0 c.0.1 in
    let answer : Option DArgs → Option Applied = option_and_then (λ found. look (node op payloads found)) in
    let q : answer (look_up_args look args) ≡ Some c.0.0 = ap answer (look_up_args-value look law args h.1 (law n c.0.0 p)) ∙ p in
    (λ i. both (λ a found. child_before (as_term a) found) (q i) (look_up_args-value look law rest h.2 c.1 i))
    ∙ (λ i. Some (child_before (sym c.0.1 i) (value_args (found_or look) rest)))
look_up_args-value look law (scope inner rest) h c = λ i. both scope (look_up_args-value look law inner h.0 c.0 i) (look_up_args-value look law rest h.1 c.1 i)

pub look_up-value : (look : DTerm → Option Applied) → AnswersNodes look → (t : DTerm) → IsTree t → (a : Applied) → value (found_or look) t ≡ as_term a → look_up look t ≡ Some a
look_up-value look law t h a e =
    let n : DTerm = node t.op t.payloads (value_args (found_or look) t.args) in
    let p : look n ≡ Some a = answered look n a h.operator e in
    ap (option_and_then (λ found. look (node t.op t.payloads found))) (look_up_args-value look law t.args h.children (law n a p)) ∙ p

-- a tree is looked up exactly if its value is an applied id
pub look_up-iff_value : (look : DTerm → Option Applied) → AnswersNodes look → (t : DTerm) → IsTree t → (a : Applied) → (look_up look t ≡ Some a) ↔ (value (found_or look) t ≡ as_term a)
look_up-iff_value look law t h a = (value-found look t a, look_up-value look law t h a)

pub id_of_node-answers : (nodes : List DTerm) → Canonical nodes → AnswersNodes (id_of_node nodes)
id_of_node-answers nodes can d a p =
    let r : Stands nodes d a = id_of_node-some nodes d a p in
    subst (λ (t : DTerm). AllIds t.args) r.1 (EachChild-map (λ b. (b.0 < a.0) × IsFull nodes b) (λ b. Unit {0}) (λ b k. tt) (moved (filled a.1) (canonical_node nodes a.0)).args (full-children nodes can a r.0))

pub id_of-iff_value : (nodes : List DTerm) → Canonical nodes → (t : DTerm) → IsTree t → (a : Applied) → (id_of nodes t ≡ Some a) ↔ (value (found_or (id_of_node nodes)) t ≡ as_term a)
id_of-iff_value nodes can = look_up-iff_value (id_of_node nodes) (id_of_node-answers nodes can)
