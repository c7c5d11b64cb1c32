-- The row of a class that has none: where no other row has its shape, a graph stays sane with it, while the class waits.
use Rattle.std.proofs.Common.{◌≢◌, ℕ, ◌<◌, ◌∷◌, length, sym, ◌∙◌, ap, refl, subst, inl, inr}
use Rattle.std.specs.Prelude.{Contains}
use Rattle.slotted_lists.proofs.Contained.{contains_head, contains_tail, contains_cases}
use Rattle.slotted_theory.specs.Shape.{shape}
use Rattle.slotted_model.specs.Adding.{with_new_row}
use Rattle.slotted_model.specs.Changes.{GoesOn}
use Rattle.slotted_model.specs.Rebuild.{row_for}
use Rattle.slotted_model.specs.Rest.{IsRow, IsCurrent, Sane}
use Rattle.slotted_model.specs.State.{Row, State, sources, normal_node}
use Rattle.slotted_model.proofs.Rebuilding.GoingOn.{still-row, still-listed}
use Rattle.slotted_model.proofs.Finds.NormalIds.{found-again}
use Rattle.slotted_model.proofs.Rebuilding.Refiling.{row_for-row}

-- no row has the shape of the node of the class in normal form
abbrev pub HasNoTwinRow : State → ℕ → Type 0
HasNoTwinRow g o = (r : Row) → Contains g.rows r → r.shape ≢ shape (normal_node g o)

module _ (g : State) (sane : Sane g) (o : ℕ) (within : o < length g.nodes) (no_row : ¬ Contains (sources g.rows) o) (alone : HasNoTwinRow g o) where
  abbrev filed : State
  filed = with_new_row g o

  abbrev row : Row
  row = row_for g o

  filed-on : GoesOn g filed
  filed-on = record { classes = λ i h. (h, refl); finds = λ a v. (v, sym (found-again g.nodes g.found sane.sound.linked a v)); proofs = λ p h. (h, refl); symmetries = λ y c. c }

  pub new_row-sane : Sane filed
  new_row-sane = record {
    sound = sane.sound;
    filed = record {
      each = λ q c. elim (contains_cases row g.rows q c) [
        | inl e ↦ subst (IsRow filed) (sym e) (still-row g filed sane.sound filed-on row (row_for-row g sane o within))
        | inr h ↦ still-row g filed sane.sound filed-on q (sane.filed.each q h)
      ];
      once = (no_row, sane.filed.once);
      shapes = λ q t c d e. elim (contains_cases row g.rows q c) [
        | inl a ↦ elim (contains_cases row g.rows t d) [
          | inl b ↦ ap (λ (x : Row). x.source) (a ∙ sym b)
          | inr h ↦ absurd (alone t h (sym e ∙ ap (λ (x : Row). x.shape) a))
        ]
        | inr h ↦ elim (contains_cases row g.rows t d) [
          | inl b ↦ absurd (alone q h (e ∙ ap (λ (x : Row). x.shape) b))
          | inr j ↦ sane.filed.shapes q t h j e
        ]
      ];
      waits_once = (λ c. no_row (sane.filed.waits_for_row o c), sane.filed.waits_once);
      waits_for_row = λ i c. elim (contains_cases o g.waiting i c) [
        | inl e ↦ subst (Contains (sources filed.rows)) (sym e) (contains_head o (sources g.rows))
        | inr h ↦ contains_tail o (sources g.rows) i (sane.filed.waits_for_row i h)
      ];
      current = λ q c n. elim (contains_cases row g.rows q c) [
        | inl e ↦ absurd (n (subst (Contains (o ∷ g.waiting)) (ap (λ (x : Row). x.source) (sym e)) (contains_head o g.waiting)))
        | inr h ↦
            let cur : IsCurrent g q = sane.filed.current q h (λ w. n (contains_tail o g.waiting q.source w)) in
            record { in_normal_form = cur.in_normal_form; covered = cur.covered }
      ];
    };
    each_listed = λ y c. still-listed g filed sane.sound filed-on y (sane.each_listed y c);
    listed_once = sane.listed_once;
  }
