use Rattle.std.proofs.Common.{◌+◌, ◌≤◌, ◌&&◌, length, sym, ap, ◌∙◌, arith}
use Rattle.slotted_patterns.specs.Compared.{pattern_eq}
use Rattle.slotted_patterns.proofs.ComparedShapes.{nodes_count, nodes_eq, rows_from, rows_from-end, rows_from-next, substitutions_eq}
use Rattle.slotted_patterns.proofs.pattern.comparing.+equal_by_calls.Goals as goal

pub index-requires-in-loop-k : goal.index-requires-in-loop-k
index-requires-in-loop-k g t c =
    let count = nodes_count g.L.PartialEq.eq c.args.one.now c.args.two.now c.in-ENode-ENode.field-0-0 c.in-ENode-ENode.field-0-1 c.in-ENode-ENode.ones c.in-ENode-ENode.twos c.in-ENode-ENode.is-0 c.in-ENode-ENode.is-1 (sym c.same_heads.ensures ∙ c.if-not-same_heads.false) in
    omega (arith, count, c.loop-k-test.true, c.len-k-end.ensures, c.in-ENode-ENode.ones.ok.0, c.in-ENode-ENode.twos.ok.0)

pub returns-then-not-equal_by_calls : goal.returns-then-not-equal_by_calls
returns-then-not-equal_by_calls g t c =
    let E = g.L.PartialEq.eq in
    let ones = c.in-ENode-ENode.ones in
    let twos = c.in-ENode-ENode.twos in
    let alike = sym c.same_heads.ensures ∙ c.if-not-same_heads.false in
    let count = nodes_count E c.args.one.now c.args.two.now c.in-ENode-ENode.field-0-0 c.in-ENode-ENode.field-0-1 ones twos c.in-ENode-ENode.is-0 c.in-ENode-ENode.is-1 alike in
    let next = rows_from-next E ones.items twos.items c.loop-k.k c.index.result.now c.index-in-loop-k.result.now count (omega (arith, c.loop-k-test.true, c.len-k-end.ensures, ones.ok.0)) c.index.ensures c.index-in-loop-k.ensures in
    let here = sym c.equal_by_calls.ensures ∙ c.if-not-equal_by_calls.true in
    sym (
    nodes_eq E c.args.one.now c.args.two.now c.in-ENode-ENode.field-0-0 c.in-ENode-ENode.field-0-1 ones twos c.in-ENode-ENode.is-0 c.in-ENode-ENode.is-1 alike
    ∙ (sym c.loop-k.invariant ∙ (next ∙ ap (λ z. z && rows_from E ones.items twos.items (c.loop-k.k + 1)) here)))

pub loop-k-preserved : goal.loop-k-preserved
loop-k-preserved g t c =
    let E = g.L.PartialEq.eq in
    let ones = c.in-ENode-ENode.ones in
    let twos = c.in-ENode-ENode.twos in
    let count = nodes_count E c.args.one.now c.args.two.now c.in-ENode-ENode.field-0-0 c.in-ENode-ENode.field-0-1 ones twos c.in-ENode-ENode.is-0 c.in-ENode-ENode.is-1 (sym c.same_heads.ensures ∙ c.if-not-same_heads.false) in
    let next = rows_from-next E ones.items twos.items c.loop-k.k c.index.result.now c.index-in-loop-k.result.now count (omega (arith, c.loop-k-test.true, c.len-k-end.ensures, ones.ok.0)) c.index.ensures c.index-in-loop-k.ensures in
    let here = sym c.equal_by_calls.ensures ∙ c.if-not-equal_by_calls.false in
    sym (next ∙ ap (λ z. z && rows_from E ones.items twos.items (c.loop-k.k + 1)) here) ∙ c.loop-k.invariant

pub returns-after-loop-k : goal.returns-after-loop-k
returns-after-loop-k g t c =
    let E = g.L.PartialEq.eq in
    let ones = c.in-ENode-ENode.ones in
    let twos = c.in-ENode-ENode.twos in
    let alike = sym c.same_heads.ensures ∙ c.if-not-same_heads.false in
    let count = nodes_count E c.args.one.now c.args.two.now c.in-ENode-ENode.field-0-0 c.in-ENode-ENode.field-0-1 ones twos c.in-ENode-ENode.is-0 c.in-ENode-ENode.is-1 alike in
    let past : length ones.items ≤ c.loop-k.k = omega (arith, c.loop-k-test.false, c.len-k-end.ensures, ones.ok.0) in
    sym (
    nodes_eq E c.args.one.now c.args.two.now c.in-ENode-ENode.field-0-0 c.in-ENode-ENode.field-0-1 ones twos c.in-ENode-ENode.is-0 c.in-ENode-ENode.is-1 alike
    ∙ (sym c.loop-k.invariant ∙ rows_from-end E ones.items twos.items c.loop-k.k past (omega (arith, past, count))))

pub returns-then-not-equal_by_calls-2 : goal.returns-then-not-equal_by_calls-2
returns-then-not-equal_by_calls-2 g t c =
    let E = g.L.PartialEq.eq in
    let s = c.in-Subst-Subst in
    let one = sym c.equal_by_calls-in-Subst-Subst.ensures ∙ c.if-not-equal_by_calls-2.true in
    let body = (λ i. pattern_eq E (sym c.deref.ensures i) (sym c.deref-in-Subst-Subst.ensures i)) ∙ one in
    sym (
    substitutions_eq E c.args.one.now c.args.two.now s.body s.place s.value s.other_body s.other_place s.other_value s.is-0 s.is-1
    ∙ ap (λ z. z && (pattern_eq E s.place.value s.other_place.value && pattern_eq E s.value.value s.other_value.value)) body)

pub returns-then-not-equal_by_calls-3 : goal.returns-then-not-equal_by_calls-3
returns-then-not-equal_by_calls-3 g t c =
    let E = g.L.PartialEq.eq in
    let s = c.in-Subst-Subst in
    let body = (λ i. pattern_eq E (sym c.deref.ensures i) (sym c.deref-in-Subst-Subst.ensures i)) ∙ (sym c.equal_by_calls-in-Subst-Subst.ensures ∙ c.if-not-equal_by_calls-2.false) in
    let place = (λ i. pattern_eq E (sym c.deref-in-Subst-Subst-2.ensures i) (sym c.deref-in-Subst-Subst-3.ensures i)) ∙ (sym c.equal_by_calls-in-Subst-Subst-2.ensures ∙ c.if-not-equal_by_calls-3.true) in
    sym (
    substitutions_eq E c.args.one.now c.args.two.now s.body s.place s.value s.other_body s.other_place s.other_value s.is-0 s.is-1
    ∙ (λ i. body i && (place i && pattern_eq E s.value.value s.other_value.value)))

pub returns-else-not-equal_by_calls-3 : goal.returns-else-not-equal_by_calls-3
returns-else-not-equal_by_calls-3 g t c =
    let E = g.L.PartialEq.eq in
    let s = c.in-Subst-Subst in
    let body = (λ i. pattern_eq E (sym c.deref.ensures i) (sym c.deref-in-Subst-Subst.ensures i)) ∙ (sym c.equal_by_calls-in-Subst-Subst.ensures ∙ c.if-not-equal_by_calls-2.false) in
    let place = (λ i. pattern_eq E (sym c.deref-in-Subst-Subst-2.ensures i) (sym c.deref-in-Subst-Subst-3.ensures i)) ∙ (sym c.equal_by_calls-in-Subst-Subst-2.ensures ∙ c.if-not-equal_by_calls-3.false) in
    c.equal_by_calls-in-Subst-Subst-3.ensures ∙ sym (
    substitutions_eq E c.args.one.now c.args.two.now s.body s.place s.value s.other_body s.other_place s.other_value s.is-0 s.is-1
    ∙ (λ i. body i && (place i && pattern_eq E (sym c.deref-in-Subst-Subst-4.ensures i) (sym c.deref-in-Subst-Subst-5.ensures i))))
