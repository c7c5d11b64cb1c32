-- What a table knows of frames.
use Rattle.std.proofs.Common.{◌≡◌, ◌<◌, List, [], ◌∷◌, ◌++◌, length, sym, subst, arith}
use Rattle.std.specs.Prelude.{All}
use Rattle.std.proofs.Math.Seq.{get_or-append_seam}
use Rattle.std.proofs.lemmas.List.{get_or_append_left, length_push}
use Rattle.std.proofs.lemmas.List.Elements.{All-push}
use Rattle.slotted_theory.specs.Term.{Term}
use Rattle.slotted_slots.specs.Table.{KnowsMore, Table}
use Rattle.slotted_nodes.specs.Form.{Form}
use Rattle.slotted_terms.specs.Valid.{IsValidTerm}
use Rattle.slotted_lookup.specs.Enodes.{AllKnownTo}
use Rattle.slotted_operations.proofs.CallerLemmas.{term_later}
use Rattle.slotted_graph.specs.declared.extracting.Frame.{Frame}
use Rattle.slotted_graph.specs.Frames.{IsKnownFrame}

module _ {L : Type 0} (form : L → Form) where
  -- a table that knows more knows them too
  pub frame-later : (t u : Table) → KnowsMore t u → (f : Frame L) → IsKnownFrame form t f → IsKnownFrame form u f
  frame-later t u more f is = record {
    names = λ j d l. more _ (is.names j d l);
    operators = is.operators;
    children = λ j d l. term_later t u more _ (is.children j d l);
  }

  pub frames-later : (t u : Table) → KnowsMore t u → (fs : List (Frame L)) → All (IsKnownFrame form t) fs → All (IsKnownFrame form u) fs
  frames-later t u more fs all j d l = frame-later t u more _ (all j d l)

  -- a frame with one child more
  pub known-more : (t : Table) (f g : Frame L) (x : Term) → IsKnownFrame form t f → 0 < x.op → IsValidTerm t x → g.node ≡ f.node → g.children.items ≡ f.children.items ++ x ∷ [] → IsKnownFrame form t g
  known-more t f g x is op valid node items = record {
    names = subst (λ n. AllKnownTo t (form n).names) (sym node) is.names;
    operators = subst (All (λ (u : Term). 0 < u.op)) (sym items) (All-push (λ (u : Term). 0 < u.op) f.children.items x is.operators op);
    children = subst (All (IsValidTerm t)) (sym items) (All-push (IsValidTerm t) f.children.items x is.children valid);
  }

-- what holds of all and one more
pub all-first : {X : Type 0} (P : X → Type 0) (xs : List X) (x : X) → All P (xs ++ x ∷ []) → All P xs
all-first P xs x all j d l = subst P (get_or_append_left xs (x ∷ []) d j l) (all j d (omega (arith, l, length_push xs x)))

pub all-last : {X : Type 0} (P : X → Type 0) (xs : List X) (x : X) → All P (xs ++ x ∷ []) → P x
all-last P xs x all = subst P (get_or-append_seam xs x [] x) (all (length xs) x (omega (arith, length_push xs x)))
