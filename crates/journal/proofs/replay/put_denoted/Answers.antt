use Rattle.std.proofs.Common.{◌≡◌, ◌<◌, length, take, ap, rules}
use Rattle.std.proofs.lemmas.List.{length-take, get_or-take}
use Rattle.layout.specs.Entries.{Write}
use Rattle.desk.specs.Desk.{no_copy}
use native.Mathlib.Omega.{arith}
use mathlib.Core.Path.{sym, ◌∙◌}
use Rattle.journal.proofs.DenotedLaws.{short-of, full-of, pairs-read, copies-read}
use Rattle.journal.proofs.replay.put_denoted.Goals as goal
use Rattle.journal.proofs.Clauses.{count_bound-by_index, did-upper_bound}

pub slice_bounds-pairs-end : goal.slice_bounds-pairs-end
slice_bounds-pairs-end c =
    let s = short-of _ _ c.requires.place_value.0 c.requires.place_value.1 (sym c.is_short.ensures ∙ c.if-is_short.true) in
    let z : length c.log_pairs-pairs.result ≡ 9 = search rules in
    omega (arith, z, c.pair_count-count.ensures, s.few)

pub slice_bounds-put_home_words-end : goal.slice_bounds-put_home_words-end
slice_bounds-put_home_words-end c =
    let s = short-of _ _ c.requires.place_value.0 c.requires.place_value.1 (sym c.is_short.ensures ∙ c.if-is_short.true) in
    let z : length c.log_pairs-pairs.result ≡ 9 = search rules in
    omega (arith, z, length-take c.pair_count-count.result c.log_pairs-pairs.result, c.pair_count-count.ensures, s.few)

pub put_home_words-requires : goal.put_home_words-requires
put_home_words-requires c =
    count_bound-by_index
    (let s = short-of _ _ c.requires.place_value.0 c.requires.place_value.1 (sym c.is_short.ensures ∙ c.if-is_short.true) in
    let k = c.pair_count-count.result in
    let z : length (take k c.log_pairs-pairs.result) ≡ k = search rules in (
      omega (arith, z, c.pair_count-count.ensures, s.few, c.requires.n_bound),
      λ j l.
          let m : j < k = omega (arith, z, l) in
          let i = ap (λ (w : Write). w.0) (get_or-take k c.log_pairs-pairs.result j (0, 0) m ∙ c.log_pairs-pairs.ensures j (omega (arith, c.pair_count-count.ensures, s.few))) in
          let b = s.below j (omega (arith, c.pair_count-count.ensures)) in
          (omega (arith, i, b, c.requires.n_bound), omega (arith, i, b, c.requires.n_bound)),
    ))

pub returns-then-is_short : goal.returns-then-is_short
returns-then-is_short c =
    did-upper_bound
    (let s = short-of _ _ c.requires.place_value.0 c.requires.place_value.1 (sym c.is_short.ensures ∙ c.if-is_short.true) in
    let k = c.pair_count-count.result in
    let z : length (take k c.log_pairs-pairs.result) ≡ k = search rules in
    (rw (pairs-read _ s c.log_pairs-pairs.result k c.pair_count-count.ensures c.log_pairs-pairs.ensures z) at c.put_home_words.ensures.did, omega (arith, c.put_home_words.ensures.value, z, c.pair_count-count.ensures, s.few)))

pub slice_bounds-copies-end : goal.slice_bounds-copies-end
slice_bounds-copies-end c =
    let s = full-of _ _ c.requires.place_value.0 c.requires.place_value.1 (sym c.is_short.ensures ∙ c.if-is_short.false) in
    let z : length c.log_copies-copies.result ≡ 4 = search rules in
    omega (arith, z, c.word-count.ensures, s.at_most)

pub slice_bounds-put_homes-end : goal.slice_bounds-put_homes-end
slice_bounds-put_homes-end c =
    let s = full-of _ _ c.requires.place_value.0 c.requires.place_value.1 (sym c.is_short.ensures ∙ c.if-is_short.false) in
    let z : length c.log_copies-copies.result ≡ 4 = search rules in
    omega (arith, z, length-take c.word-count.result c.log_copies-copies.result, c.word-count.ensures, s.at_most)

pub put_homes-requires : goal.put_homes-requires
put_homes-requires c =
    count_bound-by_index
    (let s = full-of _ _ c.requires.place_value.0 c.requires.place_value.1 (sym c.is_short.ensures ∙ c.if-is_short.false) in
    let k = c.word-count.result in
    let z : length (take k c.log_copies-copies.result) ≡ k = search rules in (
      omega (arith, z, c.word-count.ensures, s.at_most, c.requires.n_bound),
      λ j l.
          let m : j < k = omega (arith, z, l) in
          let b = s.below j (omega (arith, m, c.word-count.ensures)) in
          rw (get_or-take k c.log_copies-copies.result j no_copy m, c.log_copies-copies.ensures j (omega (arith, m, c.word-count.ensures, s.at_most))) (omega (arith, b, c.requires.n_bound), omega (arith, b, c.requires.n_bound)),
    ))

pub returns : goal.returns
returns c =
    did-upper_bound
    (let s = full-of _ _ c.requires.place_value.0 c.requires.place_value.1 (sym c.is_short.ensures ∙ c.if-is_short.false) in
    let k = c.word-count.result in
    let z : length (take k c.log_copies-copies.result) ≡ k = search rules in
    (rw (copies-read _ s c.log_copies-copies.result k c.word-count.ensures c.log_copies-copies.ensures z) at c.put_homes.ensures.did, omega (arith, c.put_homes.ensures.value, z, c.word-count.ensures, s.at_most)))
