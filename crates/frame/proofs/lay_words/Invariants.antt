-- `frame::lay_words` meets its contract. The loop's invariant: the words passed lie behind the first three bytes. Assumes nothing.
use Rattle.std.proofs.Common.{◌≡◌, take, ◌++◌}
use Rattle.words.specs.Words.{bytes_of}
use Rattle.frame.specs.Reply.{words_from, laid}
use Rattle.frame.proofs.lay_words.Given as goal

abbrev pub invariant-loop-k : goal.invariant-loop-k
invariant-loop-k l = l.buffer ≡ laid (take 3 l.initial.buffer ++ bytes_of (words_from l.source l.first l.k)) l.initial.buffer
