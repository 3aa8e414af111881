use Rattle.std.proofs.lemmas.Bool.{false≢true}
use Rattle.dg_ptext.proofs.WordBytes.{prefix_of_word, utf8_word}
use Rattle.dg_ptext.proofs.token.read_word.Goals as goal

pub unreachable-requires : goal.unreachable-requires
unreachable-requires c =
    false≢true (c.in-Err.ensures.succeeds
    (rw (c.in_ok-extend_from_slice.ensures.items, c.in_ok-push.ensures.items, c.new-bytes.ensures.items, c.word_len-taken.ensures.len)
    (utf8_word _ (c.requires, prefix_of_word c.args.behind.now))))
