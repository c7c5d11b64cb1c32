-- What an answer to `eq` says: of a term that is added again, and of what a node is looked up as.
use Rattle.std.proofs.Common.{◌≡◌, ◌∙◌, sym, ap, subst, refl}
use Rattle.std.proofs.lemmas.Bool.{false≢true}
use Rattle.std.proofs.lemmas.Result.{IfOk-weaker}
use Rattle.std.specs.Prelude.{Bool, false, Result, Ok, Err, Option, Some, None, IsTrue, IfOk, IfSome, IsSome, IsSomeAnd, ◌↔◌, option_map}
use Rattle.slotted_lists.proofs.Options.{Some-same}
use Rattle.slotted_theory.specs.Term.{Term}
use Rattle.slotted_theory.specs.Nameless.{DTerm, nameless}
use Rattle.slotted_theory.specs.Derives.{joined, turned}
use Rattle.slotted_slots.specs.declared.error.Error.{Error}
use Rattle.slotted_slots.specs.declared.types.AppliedId.{AppliedId}
use Rattle.slotted_nodes.specs.Form.{Form}
use Rattle.slotted_model.specs.Applied.{Applied}
use Rattle.slotted_model.specs.Ids.{id_of}
use Rattle.slotted_explain.specs.Adding.{IsEqualToNode}
use Rattle.slotted_explain.specs.ValidIds.{SaysFillingsEqual}
use Rattle.slotted_explain.specs.Graph.{Graph, id_of_term}
use Rattle.slotted_explain.specs.Image.{Image, FoundAlike}
use Rattle.slotted_explain.specs.LookUp.{look_up}
use Rattle.slotted_explain.specs.Nodes.{to_applied}
use Rattle.slotted_explain.specs.Reports.{IsFound}
use Rattle.slotted_explain.proofs.CallerLemmas.{filled}
use Rattle.slotted_egraphs.specs.Filed.{IsFiledAs, SaysNodeEqual}

-- where ids find alike, an answer that says whether they do is yes
pub yes_if : (h : Image) (a b : Applied) (r : Result Bool Error) → IfOk r (λ yes. IsTrue yes ↔ FoundAlike h a b) → FoundAlike h a b → IfOk r IsTrue
yes_if h a b (Ok answer) e f = e.1 f
yes_if h a b (Err error) e f = tt

-- from g to h no class changes, and to k none for a term that has an id: so a term that is equal to one of g without bound names
-- is added as the same id
pub same_again : (g h k : Graph) (t u : Term) (a b : Applied) → id_of_term g t ≡ Some a → nameless u ≡ nameless t → h.image ≡ g.image → (IsSome (id_of_term h u) → k.image ≡ h.image) → id_of_term k u ≡ Some b → a ≡ b
same_again g h k t u a b found same reads kept again =
    let looked_up : Image → Option Applied = λ i. id_of i.canonical (nameless u) in
    let here : id_of_term h u ≡ Some a = ap looked_up reads ∙ (ap (λ (d : DTerm). id_of g.image.canonical d) same ∙ found) in
    let stays : k.image ≡ h.image = kept (subst (λ (o : Option Applied). IsSome o) (sym here) refl) in
    Some-same a b (sym here ∙ (ap looked_up (sym stays) ∙ again))

-- an answer about what a look-up answered is one about the node

pub filed_some : (g : Graph) (f : Form) (x : AppliedId) (o : Option AppliedId) (b : Applied) (r : Result Bool Error) → o ≡ Some x → option_map to_applied o ≡ look_up g f → IfOk r (λ y. IsTrue y ↔ FoundAlike g.image (to_applied x) b) → IfOk r (λ y. IsTrue y ↔ IsFiledAs g f b)
filed_some g f x o b r is class e =
    let at : Some (to_applied x) ≡ look_up g f = ap (λ (v : Option AppliedId). option_map to_applied v) (sym is) ∙ class in
    subst (λ (v : Option Applied). IfOk r (λ y. IsTrue y ↔ IsSomeAnd v (λ a. FoundAlike g.image a b))) at e

pub filed_none : (g : Graph) (f : Form) (o : Option AppliedId) (b : Applied) → o ≡ None → option_map to_applied o ≡ look_up g f → IsTrue false ↔ IsFiledAs g f b
filed_none g f o b is class =
    let at : option_map to_applied None ≡ look_up g f = ap (λ (v : Option AppliedId). option_map to_applied v) (sym is) ∙ class in
    subst (λ (v : Option Applied). IsTrue false ↔ IsSomeAnd v (λ a. FoundAlike g.image a b)) at ((λ e. absurd (false≢true e)), (λ e. absurd e))

-- what is equal to the id that a node has is equal to the node
equal_through : (g : Graph) (f : Form) (a b : Applied) (y : Bool) → IsFound g a → IsEqualToNode g.image a f → SaysFillingsEqual g.image a b y → SaysNodeEqual g f b y
equal_through g f a b y found equal says told right e fills node =
    let left = filled g a found.valid in
    joined (turned (says told left.0 right left.1 fills).0) (equal left.0 e left.1 node)

pub filed_equal : (g : Graph) (f : Form) (x : AppliedId) (o : Option AppliedId) (b : Applied) (r : Result Bool Error) → o ≡ Some x → IfSome o (λ a. IsFound g (to_applied a)) → IfSome o (λ a. IsEqualToNode g.image (to_applied a) f) →
    IfOk r (SaysFillingsEqual g.image (to_applied x) b) → IfOk r (SaysNodeEqual g f b)
filed_equal g f x o b r is finds stands e =
    let found : IsFound g (to_applied x) = subst (λ (v : Option AppliedId). IfSome v (λ a. IsFound g (to_applied a))) is finds in
    let equal : IsEqualToNode g.image (to_applied x) f = subst (λ (v : Option AppliedId). IfSome v (λ a. IsEqualToNode g.image (to_applied a) f)) is stands in
    IfOk-weaker r (SaysFillingsEqual g.image (to_applied x) b) (SaysNodeEqual g f b) (λ y says. equal_through g f (to_applied x) b y found equal says) e
