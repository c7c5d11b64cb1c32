use Rattle.slotted_theory.specs.Derives.{alpha}
use Rattle.slotted_theory.proofs.Laws.{nameless-renamed}
use Rattle.slotted_theory.proofs.Forward.{Derives-equal}
use Rattle.slotted_theory.proofs.Backward.{Equal-derives}
use Rattle.slotted_theory.proofs.FromNothing.{Derives-nothing}
use Rattle.slotted_theory.proofs.MoreEquations.{Derives-more, Derives-through, Derives-one_sided}
use Rattle.slotted_theory.proofs.FreeNames.{moved-agrees, agrees-from_moved}
use Rattle.slotted_theory.proofs.NamesBack.{a_named_term}
use Rattle.slotted_theory.proofs.Binders.{Alpha-bind, Equal-under, Equal-opened}
use Rattle.slotted_theory.proofs.Tagged.{Alpha-literal}
use Rattle.slotted_theory.proofs.Shapes.{shape_iff}
use Rattle.slotted_theory.proofs.Filled.{filled-value_of, filled-injective}
use Rattle.slotted_theory.proofs.ByBijection.{moved-injective}
use Rattle.slotted_theory.proofs.Decides.{args_eq_iff}
use Rattle.slotted_theory.proofs.Flats.{number_at_place}
use Rattle.slotted_theory.proofs.laws_hold.Goals as goal

pub returns : goal.returns
returns c = record {
  derivable_is_equal = λ E t u. (Derives-equal, Equal-derives t u);
  nameless_is_onto = a_named_term;
  nothing_derives_alpha = λ t u. (Derives-nothing, alpha);
  more_derive_more = λ E F h t u d. Derives-more h d;
  derivable_adds_nothing = λ E F h t u d. Derives-through h d;
  one_sided_names_may_be_swapped = λ E t u π h d. Derives-one_sided π h d;
  alpha_is_literal = Alpha-literal;
  renaming_moves = nameless-renamed;
  moving_is_injective = moved-injective;
  free_names_matter = λ f g d. (agrees-from_moved f g d, moved-agrees f g d);
  shapes_decide = shape_iff;
  binder_may_be_renamed = Alpha-bind;
  binding_keeps_equality = λ E x d e. Equal-under x d e;
  opening_keeps_equality = λ E z d e h k. Equal-opened z d e h k;
  filled_agrees = filled-value_of;
  filled_is_injective = filled-injective;
  equality_is_decided = args_eq_iff;
  numbers_are_placed = λ a i h. number_at_place a i h;
}
