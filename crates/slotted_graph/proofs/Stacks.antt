-- Frames that wait, and frames with one child more.
use Rattle.std.proofs.Common.{◌≡◌, ◌≤◌, ◌+◌, ◌∙◌, ℕ, zero, suc, List, [], ◌∷◌, ◌++◌, true, Option, length, take, refl, ap, sym, subst, arith}
use Rattle.std.proofs.lemmas.Bool.{leb-true}
use Rattle.std.proofs.lemmas.List.{length_push, take_all, take_more}
use Rattle.slotted_theory.specs.Term.{Term}
use Rattle.slotted_nodes.specs.Form.{Form, children}
use Rattle.slotted_languages.specs.Filled.{term_of}
use Rattle.slotted_model.specs.Applied.{Applied}
use Rattle.slotted_classes.specs.ChildIds.{child_ids}
use Rattle.slotted_classes.proofs.ChildIds.{length-ids}
use Rattle.slotted_graph.specs.declared.entry.TermEntry.{TermEntry}
use Rattle.slotted_graph.specs.declared.extracting.Frame.{Frame}
use Rattle.slotted_graph.specs.Terms.{AreMade, IsMade, IsNamedBy, by_entry, no_more, one_more}
use Rattle.slotted_graph.specs.Frames.{IsFrameFor, IsOpen, Waits, has_all, ids_of, made_count, next_child}

few-taken : {X : Type 0} (n : ℕ) (xs : List X) → length (take n xs) ≡ n → n ≤ length xs
few-taken zero xs e = omega arith
few-taken (suc n) [] e = omega (arith, e)
few-taken (suc n) (x ∷ xs) e = omega (arith, few-taken n xs (omega (arith, e)))

module _ {L C : Type 0} (form : L → Form) (es : List (Option (TermEntry L C))) where
  -- one id and one term more
  pub made-more : (ids : List Applied) (ts : List Term) (a : Applied) (t : Term) → AreMade form es ids ts → IsMade form es a t → AreMade form es (ids ++ a ∷ []) (ts ++ t ∷ [])
  made-more [] [] a t no_more m = one_more m no_more
  made-more [] (u ∷ ts) a t h m = elim h [ ]
  made-more (b ∷ ids) [] a t h m = elim h [ ]
  made-more (b ∷ ids) (u ∷ ts) a t (one_more h more) m = one_more h (made-more ids ts a t more m)

  -- a frame more waits
  pub waits-more : (a : Applied) (fs : List (Frame L)) (b : Applied) (f : Frame L) → Waits form es a fs b → IsFrameFor form es b f → IsOpen form f → Waits form es a (fs ++ f ∷ []) (next_child form f)
  waits-more a [] b f w is lacks = (subst (λ c. IsFrameFor form es c f) (sym w) is, lacks, refl)
  waits-more a (g ∷ fs) b f w is lacks = (w.0, w.1, waits-more (next_child form g) fs b f w.2 is lacks)

  -- the last one waits for the term that is made
  pub record WaitsLast (a : Applied) (fs : List (Frame L)) (f : Frame L) (c : Applied) : Type 0 where
    pub id : Applied
    pub waits : Waits form es a fs id
    pub frame : IsFrameFor form es id f
    pub lacks : IsOpen form f
    pub next : next_child form f ≡ c

  pub waits-last : (a : Applied) (fs : List (Frame L)) (f : Frame L) (c : Applied) → Waits form es a (fs ++ f ∷ []) c → WaitsLast a fs f c
  waits-last a [] f c w = record { id = a; waits = refl; frame = w.0; lacks = w.1; next = w.2 }
  waits-last a (g ∷ fs) f c w =
      let r = waits-last (next_child form g) fs f c w.2 in
      record { id = r.id; waits = (w.0, w.1, r.waits); frame = r.frame; lacks = r.lacks; next = r.next }

  -- a frame with one child more
  pub frame-more : (a : Applied) (f g : Frame L) (t : Term) → IsFrameFor form es a f → IsOpen form f → IsMade form es (next_child form f) t → g.node ≡ f.node → g.children.items ≡ f.children.items ++ t ∷ [] → IsFrameFor form es a g
  frame-more a f g t is lacks made node items =
      let ids : List Applied = ids_of form f in
      let k : ℕ = made_count f in
      let count : made_count g ≡ k + 1 = ap length items ∙ length_push f.children.items t in
      let first : take (k + 1) ids ≡ take k ids ++ next_child form f ∷ [] = take_more ids k (0, []) lacks in
      let ts : AreMade form es (take k ids ++ next_child form f ∷ []) (f.children.items ++ t ∷ []) = made-more (take k ids) f.children.items (next_child form f) t is.made made in
      let now : AreMade form es (take (k + 1) ids) (f.children.items ++ t ∷ []) = subst (λ xs. AreMade form es xs (f.children.items ++ t ∷ [])) (sym first) ts in
      record {
        entry = is.entry;
        there = is.there;
        named = subst (λ n. IsNamedBy is.entry.names (form is.entry.node) a (form n)) (sym node) is.named;
        made = subst (λ xs. AreMade form es (take (made_count g) (ids_of form g)) xs) (sym items)
            (subst (λ n. AreMade form es (take n (ids_of form g)) (f.children.items ++ t ∷ [])) (sym count)
            (subst (λ n. AreMade form es (take (k + 1) (child_ids (form n))) (f.children.items ++ t ∷ [])) (sym node) now));
      }

  -- a frame with all children closes
  pub frame-closes : (a : Applied) (f : Frame L) → IsFrameFor form es a f → made_count f ≡ length (children (form f.node).tree) → IsMade form es a (term_of (form f.node) f.children.items)
  frame-closes a f is all =
      let ids : List Applied = ids_of form f in
      let whole : take (made_count f) ids ≡ ids = take_all (made_count f) ids (omega (arith, all, length-ids (form f.node).tree (form f.node).names)) in
      by_entry is.entry (form f.node) f.children.items is.there is.named (subst (λ xs. AreMade form es xs f.children.items) whole is.made) refl

  -- no more are made than there are children
  made-length : (ids : List Applied) (ts : List Term) → AreMade form es ids ts → length ids ≡ length ts
  made-length [] [] no_more = refl
  made-length [] (t ∷ ts) h = elim h [ ]
  made-length (a ∷ ids) [] h = elim h [ ]
  made-length (a ∷ ids) (t ∷ ts) (one_more h more) = ap suc (made-length ids ts more)

  -- so a frame that has all has one for each
  pub all-made : (a : Applied) (f : Frame L) → IsFrameFor form es a f → has_all form f ≡ true → made_count f ≡ length (children (form f.node).tree)
  all-made a f is all =
      let many : length (children (form f.node).tree) ≤ made_count f = leb-true (length (children (form f.node).tree)) (made_count f) all in
      let few : made_count f ≤ length (ids_of form f) = few-taken (made_count f) (ids_of form f) (made-length (take (made_count f) (ids_of form f)) f.children.items is.made) in
      omega (arith, many, few, length-ids (form f.node).tree (form f.node).names)
