-- What a runner is once one more turn is stored.
use Rattle.std.proofs.Common.{◌≡◌, ◌∙◌, ℕ, suc, ◌+◌, ◌-◌, ◌≤◌, List, [], ◌∷◌, ◌++◌, length, length-append, map, Option, Some, None, Bool, true, false, Result, Ok, Err, ap, refl, sym, subst, arith}
use Rattle.std.specs.Prelude.{IfErr, IsSome, OnErr, OnOk, is_some, not, option_map}
use Rattle.std.proofs.lemmas.Bool.{false≢true}
use Rattle.std.proofs.lemmas.List.{map-append, length-map}
use Rattle.slotted_operations.specs.Graph.{Graph}
use Rattle.slotted_graph.specs.Extension.{ExtendsTo}
use Rattle.slotted_model_rules.specs.Runners.{Limits, Measures}
use Rattle.slotted_rules.specs.declared.iteration.Iteration.{Iteration}
use Rattle.slotted_rules.specs.declared.report.StopReason.{StopReason}
use Rattle.slotted_rules.specs.RunLoops.{HasTaken, IsTurn, turns_left}
use Rattle.slotted_rules.specs.Seen.{Parts, iteration_of, stop_of}
use Rattle.slotted_rules.proofs.Turns.{taken-more, within}

pub on-err : {A E P : Type 0} (r : Result A E) → P → OnErr r P
on-err (Ok x) p = tt
on-err (Err e) p = p

pub err-so : {A E : Type 0} (r : Result A E) {P Q : E → Type 0} → IfErr r P → ((e : E) → P e → Q e) → IfErr r Q
err-so (Ok x) p f = tt
err-so (Err e) p f = f e p

pub on-ok-two : {A E P Q R : Type 0} (r : Result A E) → OnOk r P → OnOk r Q → (P → Q → R) → OnOk r R
on-ok-two (Ok x) p q f = f p q
on-ok-two (Err e) p q f = tt

pub some-of : {A : Type 0} (o : Option A) → IsSome o → (x : A) × (o ≡ Some x)
some-of None is = absurd (false≢true is)
some-of (Some x) is = (x, refl)

pub none-if : {A : Type 0} (o : Option A) (y : Bool) → y ≡ is_some o → y ≡ false → o ≡ None
none-if None y e f = refl
none-if (Some x) y e f = absurd (false≢true (sym f ∙ e))

pub none-of : {A : Type 0} (o : Option A) (y : Bool) → is_some o ≡ not y → y ≡ true → o ≡ None
none-of None y e t = refl
none-of (Some x) y e t = absurd (false≢true (sym (e ∙ ap not t)))

module _ {H T D K : Type 0} (tells : K → ℕ → K → Type 0) (applies : Graph × H → Graph × H → Type 0) (hooks : Graph × H → ℕ → Graph × H → Option T → Type 0) (m : Measures (Graph × H) D) where
  -- where a turn goes on, fewer are left
  pub fewer-left : (limits : Limits) (start : ℕ) (before stop : Option (StopReason T)) → before ≡ None → (stored xs ys : List (Iteration D)) (kept : Iteration D) → map iteration_of xs ≡ map iteration_of stored → ys ≡ xs ++ kept ∷ [] →
      (s t : Graph × H) (k l : K) → IsTurn tells applies hooks m limits start (length stored) s k t l (option_map stop_of stop) (iteration_of kept) → (limit : ℕ) → limit ≡ limits.iterations →
      suc (turns_left stop limit (length ys)) ≤ turns_left before limits.iterations (length stored)
  fewer-left limits start before (Some r) none stored xs ys kept same items s t k l turn limit is =
      subst (λ o. 1 ≤ turns_left o limits.iterations (length stored)) (sym none) (omega arith)
  fewer-left limits start before None none stored xs ys kept same items s t k l turn limit is =
      let fits : length stored ≤ limits.iterations = within tells applies hooks m limits start (length stored) s t k l (iteration_of kept) turn in
      let first : length xs ≡ length stored = sym (length-map xs iteration_of) ∙ (ap length same ∙ length-map stored iteration_of) in
      let more : length ys ≡ length xs + 1 = ap length items ∙ length-append xs (kept ∷ []) in
      subst (λ (o : Option (StopReason T)). suc (suc (suc limit - length ys)) ≤ turns_left o limits.iterations (length stored)) (sym none) (omega arith)

  -- and it was taken
  pub taken-stored : (start : ℕ) (p q t : Parts D T H K) → HasTaken tells applies hooks m p.limits start p q → q.stop_reason ≡ None → t ≡ record q { graph = t.graph; hook = t.hook; clock = t.clock } →
      (stored xs ys : List (Iteration D)) (kept : Iteration D) (stop : Option (StopReason T)) → q.iterations ≡ map iteration_of stored → t.iterations ≡ map iteration_of xs → ys ≡ xs ++ kept ∷ [] →
      IsTurn tells applies hooks m q.limits start (length stored) (q.graph, q.hook) q.clock (t.graph, t.hook) t.clock (option_map stop_of stop) (iteration_of kept) → t.graph.failed ≡ false → ExtendsTo q.graph t.graph →
      HasTaken tells applies hooks m p.limits start p (record t { iterations = map iteration_of ys; stop_reason = option_map stop_of stop })
  taken-stored start p q t taken on rest stored xs ys kept stop those these items turn well more =
      let limits : q.limits ≡ p.limits = ap (λ (x : Parts D T H K). x.limits) taken.rest in
      let count : length stored ≡ length q.iterations = sym (length-map stored iteration_of) ∙ ap length (sym those) in
      let all : map iteration_of ys ≡ q.iterations ++ iteration_of kept ∷ [] =
      ap (map iteration_of) items ∙ (map-append iteration_of xs (kept ∷ []) ∙ ap (λ is. is ++ iteration_of kept ∷ []) (sym these ∙ ap (λ (x : Parts D T H K). x.iterations) rest)) in
      taken-more tells applies hooks m p.limits start p q (record t { iterations = map iteration_of ys; stop_reason = option_map stop_of stop }) taken on (option_map stop_of stop) (iteration_of kept)
      (subst (λ n. IsTurn tells applies hooks m p.limits start n (q.graph, q.hook) q.clock (t.graph, t.hook) t.clock (option_map stop_of stop) (iteration_of kept)) count
      (subst (λ l. IsTurn tells applies hooks m l start (length stored) (q.graph, q.hook) q.clock (t.graph, t.hook) t.clock (option_map stop_of stop) (iteration_of kept)) limits turn))
      (λ i. record (rest i) { iterations = all i; stop_reason = option_map stop_of stop }) well more
