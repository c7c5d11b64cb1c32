-- What a yes says: the ids find alike, the terms of all ids that fill them are derivable, and where nothing is asserted they are the same.
use Rattle.std.proofs.Common.{◌≡◌, ◌↔◌, [], sym, ◌∙◌, subst}
use Rattle.std.specs.Prelude.{Bool, IsTrue}
use Rattle.slotted_theory.specs.Nameless.{DTerm}
use Rattle.slotted_theory.specs.Derives.{Equal}
use Rattle.slotted_model.specs.Applied.{Applied}
use Rattle.slotted_model.specs.Classes.{term_of}
use Rattle.slotted_model.specs.Filling.{IsFilling}
use Rattle.slotted_model.specs.Find.{find, used_slots}
use Rattle.slotted_model.proofs.Finds.FindProofs.{found_alike-equal, found_alike-derivable}
use Rattle.slotted_model.proofs.Represented.Fillings.{term_of-filling}
use Rattle.slotted_model.proofs.Finds.NothingAsserted.{nothing-alpha, nothing-full}
use Rattle.slotted_operations.specs.ValidIds.{IsValidId, SaysFillingsEqual, LackNothing}
use Rattle.slotted_operations.specs.Graph.{Graph}
use Rattle.slotted_operations.specs.Image.{Image, found_id, FoundAlike, asserted_in, AreDerivable}
use Rattle.slotted_classes.specs.Finding.{IsFindable}
use Rattle.slotted_classes.specs.Kept.{Kept, nodes_of, entries_of, proofs_of}
use Rattle.slotted_operations.specs.Good.{image_of, Good}
use Rattle.slotted_operations.proofs.Ids.ValidIds.{of-valid, findable-within, fills-filling}
use Rattle.slotted_operations.proofs.Graphs.Images.{found_id-is}

-- what a contract says of the answer
pub record Says (g : Image) (a b : Applied) (y : Bool) : Type 0 where
  pub found : IsTrue y ↔ FoundAlike g a b
  pub filled : SaysFillingsEqual g a b y
  pub equal : IsTrue y → Equal (asserted_in g) (term_of g.canonical a) (term_of g.canonical b)
  pub derivable : IsTrue y → AreDerivable g a b
  pub terms : asserted_in g ≡ [] → IsTrue y ↔ (term_of g.canonical a ≡ term_of g.canonical b)
  pub whole : LackNothing g a b

module _ (k : Kept) (good : Good k) (a b : Applied) (fa : IsFindable k a) (fb : IsFindable k b) where
  pub alike-iff : (find (entries_of k) a ≡ find (entries_of k) b) ↔ FoundAlike (image_of k) a b
  alike-iff =
      let ea : found_id (image_of k) a ≡ find (entries_of k) a = found_id-is k a (findable-within k a fa) in
      let eb : found_id (image_of k) b ≡ find (entries_of k) b = found_id-is k b (findable-within k b fb) in
      (λ e. ea ∙ (e ∙ sym eb), λ e. sym ea ∙ (e ∙ eb))

  -- two ids that fill them
  module _ (e : find (entries_of k) a ≡ find (entries_of k) b) (left right : Applied) (fl : IsFilling (nodes_of k) [] a left) (fr : IsFilling (nodes_of k) [] b right) where
    filled-equal : Equal (asserted_in (image_of k)) (term_of (nodes_of k) left) (term_of (nodes_of k) right)
    filled-equal = found_alike-equal (nodes_of k) good.stored.sane.sound.canonical (entries_of k) (proofs_of k) good.stored.sane.sound.linked good.stored.sane.sound.proved good.stored.sane.sound.exact a b left right [] [] fa fb e fl fr

    filled-derivable : AreDerivable (image_of k) left right
    filled-derivable E t u listed et eu =
        found_alike-derivable (nodes_of k) good.stored.sane.sound.canonical (entries_of k) (proofs_of k) good.stored.sane.sound.linked good.stored.sane.sound.proved good.stored.sane.sound.exact a b left right [] [] fa fb e fl fr E t u listed et eu

  -- what they stand for is what some such ids stand for
  alike-equal : find (entries_of k) a ≡ find (entries_of k) b → Equal (asserted_in (image_of k)) (term_of (nodes_of k) a) (term_of (nodes_of k) b)
  alike-equal e =
      let l = term_of-filling (nodes_of k) good.stored.sane.sound.canonical (used_slots (entries_of k)) a fa in
      let r = term_of-filling (nodes_of k) good.stored.sane.sound.canonical (used_slots (entries_of k)) b fb in
      subst (λ (t : DTerm). Equal (asserted_in (image_of k)) t (term_of (nodes_of k) b)) l.2
      (subst (λ (t : DTerm). Equal (asserted_in (image_of k)) (term_of (nodes_of k) l.0) t) r.2 (filled-equal e l.0 r.0 l.1 r.1))

  alike-derivable : find (entries_of k) a ≡ find (entries_of k) b → AreDerivable (image_of k) a b
  alike-derivable e E t u listed et eu =
      let l = term_of-filling (nodes_of k) good.stored.sane.sound.canonical (used_slots (entries_of k)) a fa in
      let r = term_of-filling (nodes_of k) good.stored.sane.sound.canonical (used_slots (entries_of k)) b fb in
      filled-derivable e l.0 r.0 l.1 r.1 E t u listed (et ∙ sym l.2) (eu ∙ sym r.2)

  alike-whole : LackNothing (image_of k) a b
  alike-whole none = (
    nothing-full (nodes_of k) (entries_of k) (proofs_of k) good.stored.sane.sound none a fa,
    nothing-full (nodes_of k) (entries_of k) (proofs_of k) good.stored.sane.sound none b fb,
  )

  alike-terms : asserted_in (image_of k) ≡ [] → (find (entries_of k) a ≡ find (entries_of k) b) ↔ (term_of (nodes_of k) a ≡ term_of (nodes_of k) b)
  alike-terms none = let full = alike-whole none in nothing-alpha (nodes_of k) (entries_of k) (proofs_of k) good.stored.sane.sound none a b full.0 full.1

  pub says : (y : Bool) → (IsTrue y ↔ (find (entries_of k) a ≡ find (entries_of k) b)) → Says (image_of k) a b y
  says y i = record {
    found = (λ h. alike-iff.0 (i.0 h), λ e. i.1 (alike-iff.1 e));
    filled = λ h left right fl fr. let fl' = fills-filling k a left fl in let fr' = fills-filling k b right fr in (filled-equal (i.0 h) left right fl' fr', filled-derivable (i.0 h) left right fl' fr');
    equal = λ h. alike-equal (i.0 h);
    derivable = λ h. alike-derivable (i.0 h);
    terms = λ none. let t = alike-terms none in (λ h. t.0 (i.0 h), λ e. i.1 (t.1 e));
    whole = alike-whole;
  }

-- the same of ids of a graph
pub says-of : (k : Kept) → Good k → (g : Graph) → image_of k ≡ g.image → (a b : Applied) → IsValidId g a → IsValidId g b → (y : Bool) → (IsTrue y ↔ (find (entries_of k) a ≡ find (entries_of k) b)) → Says g.image a b y
says-of k good g image a b va vb y i =
    subst (λ (x : Image). Says x a b y) image (says k good a b (of-valid k good g image a va) (of-valid k good g image b vb) y i)
