use Prim.Native.Nat.{ℕ}
use mathlib.Core.List.{◌++◌}
use mathlib.Core.Path.{ap, ◌∙◌}
use native.Mathlib.Omega.{arith}
use lib.ListN.{length, take, drop}
use Rattle.lines.proofs.Puts.{put_as}
use Rattle.sheet.specs.Bytes.{words_in}
use Rattle.sheet.specs.Sheet.{report_text}
use Rattle.sheet.proofs.Texts.{text-taken}
use Rattle.sheet.proofs.Words.{count-known, words-front}
use Rattle.sheet.proofs.rows.put_sheet.Goals as goal
use Rattle.sheet.proofs.Clauses.{text-size-image}

pub put_words-requires : goal.put_words-requires
put_words-requires c = let k = count-known (length c.args.bytes.now) in (omega (arith, k.0, c.word_count-k.ensures), omega (arith, k.1, c.word_count-k.ensures, c.requires))

pub slice_bounds-put_report-end : goal.slice_bounds-put_report-end
slice_bounds-put_report-end c = let k = count-known (length c.args.bytes.now) in omega (arith, k.1, c.word_count-k.ensures, c.requires)

pub returns : goal.returns
returns c =
    text-size-image
    (let bytes = c.args.bytes.now in
    let count = c.word_count-k.ensures in
    let laid = c.put_words.ensures in
    let taken = ap (take c.word_count-k.result) laid ∙ words-front c.word_count-k.result bytes _ ∙ ap (λ (n : ℕ). words_in n bytes) count in
    (put_as (ap report_text taken ∙ text-taken bytes) c.put_report.ensures.put, (c.put_report.ensures.upper_bound, laid ∙ ap (λ (n : ℕ). words_in n bytes ++ drop n c.args.image.now) count)))
