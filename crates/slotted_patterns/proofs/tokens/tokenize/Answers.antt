use Rattle.std.specs.Str.{chars}
use Rattle.slotted_patterns.proofs.Tokenizing.{next_token-shorter, BeginsWith-pushed}
use Rattle.slotted_patterns.proofs.tokens.tokenize.Goals as goal

pub loop-tokens-smaller : goal.loop-tokens-smaller
loop-tokens-smaller c = next_token-shorter c.loop-tokens.table (chars c.loop-tokens.rest.now) _ _ _ (rw c.in-Some.is at c.in_ok-token.ensures.ok)

pub loop-tokens-preserved : goal.loop-tokens-preserved
loop-tokens-preserved c = record {
  read = BeginsWith-pushed c.args.table.now (chars c.args.text.now) c.loop-tokens.tokens.items c.push.new.self.items (chars c.loop-tokens.rest.now) c.loop-tokens.table c.in-Some.token (chars c.in-Some.after.now) c.next_token.new.table c.loop-tokens.invariant.read (rw c.in-Some.is at c.in_ok-token.ensures.ok) c.in_ok-push.ensures.items;
  more = λ s k. c.in_ok-token.ensures.more s (c.loop-tokens.invariant.more s k);
  utf8 = rw c.in-Some.is at c.in_ok-token.ensures.utf8;
}

pub next_token-requires-text-text : goal.next_token-requires-text-text
next_token-requires-text-text c κs = c.loop-tokens.invariant.utf8
