-- `hand_of` goes by the test of the definition. Assumes nothing.
use borrow.Author.Rules.{rules}
use borrow.Author.Tests.{lt-ltb, le-ltb}
use Rattle.bench_words.specs.Codec.{hand_of}
use Rattle.bench_words.proofs.hand_of.Goals as goal

pub returns-then-w-lt-PAST_HANDLES : goal.returns-then-w-lt-PAST_HANDLES
unfolding hand_of
returns-then-w-lt-PAST_HANDLES c = rw (lt-ltb _ _ c.if-w-lt-PAST_HANDLES.true) c.handle_of.ensures

pub returns : goal.returns
unfolding hand_of
returns c = rw (le-ltb _ _ c.if-w-lt-PAST_HANDLES.false)
