-- How an entry with its text stays recorded while the list of entries grows.
use Rattle.std.proofs.Common.{◌≡◌, ◌+◌, List, [], ◌∷◌, ◌++◌, length, sym, ◌∙◌, ap, refl, inl, inr, arith, append_assoc, length-append}
use Rattle.std.proofs.lemmas.List.{append-nil, get_or_append_left}
use Rattle.std.proofs.Math.Seq.{get_or-append_seam}
use Rattle.slotted_proofs.specs.Entries.{Proven, proven_at, nothing_proven}
use Rattle.slotted_operations.specs.Image.{Image, StandsIn, Records}

-- the list did not change, as the equation stood in it
pub records-stood : (g h : Image) (x : Proven) → StandsIn g x.statement.equation → h.stored ≡ g.stored → Records g h x
records-stood g h x stood same = record { more = []; stored = same ∙ sym (append-nil g.stored); entered = inl stood }

-- the entry is the last one
pub records-last : (g h : Image) (x : Proven) → h.stored ≡ g.stored ++ x ∷ [] → Records g h x
records-last g h x longer =
    let n : length h.stored ≡ length g.stored + length (x ∷ []) = ap length longer ∙ length-append g.stored (x ∷ []) in
    let one : length (x ∷ []) ≡ 1 = refl in
    record {
      more = x ∷ [];
      stored = longer;
      entered = inr (record {
        number = length g.stored;
        past = omega arith;
        in_range = omega arith;
        entry = ap (λ ps. proven_at ps (length g.stored)) longer ∙ get_or-append_seam g.stored x [] nothing_proven;
      });
    }

-- further entries stand behind it
pub records-more : (g h i : Image) (x : Proven) → Records g h x → (more : List Proven) → i.stored ≡ h.stored ++ more → Records g i x
records-more g h i x r more longer = record {
  more = r.more ++ more;
  stored = longer ∙ (ap (λ ps. ps ++ more) r.stored ∙ append_assoc g.stored r.more more);
  entered = elim r.entered [
    | inl stood ↦ inl stood
    | inr new ↦ inr (record {
      number = new.number;
      past = new.past;
      in_range = let n : length i.stored ≡ length h.stored + length more = ap length longer ∙ length-append h.stored more in omega (arith, new.in_range);
      entry = ap (λ ps. proven_at ps new.number) longer ∙ (get_or_append_left h.stored more nothing_proven new.number new.in_range ∙ new.entry);
    })
  ];
}

-- other entries stand before it, none of which has its equation
pub records-from : (f g h : Image) (x : Proven) (more : List Proven) → g.stored ≡ f.stored ++ more → (StandsIn g x.statement.equation → StandsIn f x.statement.equation) → Records g h x → Records f h x
records-from f g h x more longer back r = record {
  more = more ++ r.more;
  stored = r.stored ∙ (ap (λ ps. ps ++ r.more) longer ∙ append_assoc f.stored more r.more);
  entered = elim r.entered [
    | inl stood ↦ inl (back stood)
    | inr new ↦ inr (record {
      number = new.number;
      past = let n : length g.stored ≡ length f.stored + length more = ap length longer ∙ length-append f.stored more in omega (arith, new.past);
      in_range = new.in_range;
      entry = new.entry;
    })
  ];
}
