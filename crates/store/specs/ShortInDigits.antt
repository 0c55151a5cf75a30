-- Logs of both forms in digits, as Req 08 of document 02 has them: what finish and recover leave, on either side of the number of words at
-- which the form changes, and the short logs that recover turns away. Word 1 of a short log is 16 plus the number of its pairs.
use Rattle.std.specs.Prelude.{ℕ, ◌≡◌, List, [], ◌∷◌, ◌++◌, replicate}
use Rattle.layout.specs.Told.{refused, refusal, sealed_at, replayed}
use Rattle.desk.specs.Desk.{zero_copy, idle_session}
use Rattle.desk.specs.declared.state.Phase.TheVariants.{Active}
use Rattle.desk.specs.declared.state.RecordCopy.{RecordCopy}
use Rattle.desk.specs.declared.state.Session.{Session}
use Rattle.desk.specs.declared.state.Desk.{Desk}
use Rattle.recovery.specs.Recover.{recover_reply}
use Rattle.recovery.specs.Told.{recover_told}
use Rattle.store.specs.InDigits.{one_empty, two_empty, four_empty, before, desk_of, one_copy, finish_leaves, recover_leaves}

-- ---- images with N 1 and M 1: home words 0 to 3 are words 4 to 7, slot 0 is in words 8 to 29, slot 1 in 30 to 51

-- a copy equal to its home record finished into slot 0. The persist number is 7, and 0 after the replay, which changes nothing else
abbrev pub one_same : ℕ → List ℕ
one_same p =
    1 ∷ 1 ∷ 1 ∷ 1025 ∷  -- header
    101 ∷ 102 ∷ 103 ∷ 104 ∷  -- record 0
    p ∷ 16 ∷ 202 ∷ 203 ∷ 204 ∷ 205 ∷ 206 ∷ 207 ∷ 208 ∷ 209 ∷ 210 ∷ 211 ∷ 212 ∷ 213 ∷ 214 ∷ 215 ∷ 216 ∷ 217 ∷ 218 ∷ 219 ∷ 220 ∷ 221 ∷  -- slot 0
    0 ∷ 301 ∷ 302 ∷ 303 ∷ 304 ∷ 305 ∷ 306 ∷ 307 ∷ 308 ∷ 309 ∷ 310 ∷ 311 ∷ 312 ∷ 313 ∷ 314 ∷ 315 ∷ 316 ∷ 317 ∷ 318 ∷ 319 ∷ 320 ∷ 321 ∷ []  -- slot 1

-- word 1 changed: one pair
abbrev pub one_word : List ℕ
one_word =
    1 ∷ 1 ∷ 1 ∷ 1025 ∷  -- header
    101 ∷ 102 ∷ 103 ∷ 104 ∷  -- record 0
    7 ∷ 17 ∷ 1 ∷ 502 ∷ 204 ∷ 205 ∷ 206 ∷ 207 ∷ 208 ∷ 209 ∷ 210 ∷ 211 ∷ 212 ∷ 213 ∷ 214 ∷ 215 ∷ 216 ∷ 217 ∷ 218 ∷ 219 ∷ 220 ∷ 221 ∷  -- slot 0
    0 ∷ 301 ∷ 302 ∷ 303 ∷ 304 ∷ 305 ∷ 306 ∷ 307 ∷ 308 ∷ 309 ∷ 310 ∷ 311 ∷ 312 ∷ 313 ∷ 314 ∷ 315 ∷ 316 ∷ 317 ∷ 318 ∷ 319 ∷ 320 ∷ 321 ∷ []  -- slot 1

-- replayed
abbrev pub one_word_home : List ℕ
one_word_home =
    1 ∷ 1 ∷ 1 ∷ 1025 ∷  -- header
    101 ∷ 502 ∷ 103 ∷ 104 ∷  -- record 0
    0 ∷ 17 ∷ 1 ∷ 502 ∷ 204 ∷ 205 ∷ 206 ∷ 207 ∷ 208 ∷ 209 ∷ 210 ∷ 211 ∷ 212 ∷ 213 ∷ 214 ∷ 215 ∷ 216 ∷ 217 ∷ 218 ∷ 219 ∷ 220 ∷ 221 ∷  -- slot 0
    0 ∷ 301 ∷ 302 ∷ 303 ∷ 304 ∷ 305 ∷ 306 ∷ 307 ∷ 308 ∷ 309 ∷ 310 ∷ 311 ∷ 312 ∷ 313 ∷ 314 ∷ 315 ∷ 316 ∷ 317 ∷ 318 ∷ 319 ∷ 320 ∷ 321 ∷ []  -- slot 1

-- words 0 and 3 changed: two pairs
abbrev pub one_ends : List ℕ
one_ends =
    1 ∷ 1 ∷ 1 ∷ 1025 ∷  -- header
    101 ∷ 102 ∷ 103 ∷ 104 ∷  -- record 0
    7 ∷ 18 ∷ 0 ∷ 501 ∷ 3 ∷ 504 ∷ 206 ∷ 207 ∷ 208 ∷ 209 ∷ 210 ∷ 211 ∷ 212 ∷ 213 ∷ 214 ∷ 215 ∷ 216 ∷ 217 ∷ 218 ∷ 219 ∷ 220 ∷ 221 ∷  -- slot 0
    0 ∷ 301 ∷ 302 ∷ 303 ∷ 304 ∷ 305 ∷ 306 ∷ 307 ∷ 308 ∷ 309 ∷ 310 ∷ 311 ∷ 312 ∷ 313 ∷ 314 ∷ 315 ∷ 316 ∷ 317 ∷ 318 ∷ 319 ∷ 320 ∷ 321 ∷ []  -- slot 1

-- words 1, 2 and 3 changed: the full form, with the word that is equal too
abbrev pub one_three : List ℕ
one_three =
    1 ∷ 1 ∷ 1 ∷ 1025 ∷  -- header
    101 ∷ 102 ∷ 103 ∷ 104 ∷  -- record 0
    7 ∷ 1 ∷ 0 ∷ 101 ∷ 502 ∷ 503 ∷ 504 ∷ 207 ∷ 208 ∷ 209 ∷ 210 ∷ 211 ∷ 212 ∷ 213 ∷ 214 ∷ 215 ∷ 216 ∷ 217 ∷ 218 ∷ 219 ∷ 220 ∷ 221 ∷  -- slot 0
    0 ∷ 301 ∷ 302 ∷ 303 ∷ 304 ∷ 305 ∷ 306 ∷ 307 ∷ 308 ∷ 309 ∷ 310 ∷ 311 ∷ 312 ∷ 313 ∷ 314 ∷ 315 ∷ 316 ∷ 317 ∷ 318 ∷ 319 ∷ 320 ∷ 321 ∷ []  -- slot 1

-- number 3 at place 1, with this word 1 and with these indexes in its first two pairs, whose new words are 601 and 602
abbrev pub one_at : ℕ → ℕ → ℕ → List ℕ
one_at c i j =
    1 ∷ 1 ∷ 1 ∷ 1025 ∷  -- header
    101 ∷ 102 ∷ 103 ∷ 104 ∷  -- record 0
    0 ∷ 201 ∷ 202 ∷ 203 ∷ 204 ∷ 205 ∷ 206 ∷ 207 ∷ 208 ∷ 209 ∷ 210 ∷ 211 ∷ 212 ∷ 213 ∷ 214 ∷ 215 ∷ 216 ∷ 217 ∷ 218 ∷ 219 ∷ 220 ∷ 221 ∷  -- slot 0
    3 ∷ c ∷ i ∷ 601 ∷ j ∷ 602 ∷ 306 ∷ 307 ∷ 308 ∷ 309 ∷ 310 ∷ 311 ∷ 312 ∷ 313 ∷ 314 ∷ 315 ∷ 316 ∷ 317 ∷ 318 ∷ 319 ∷ 320 ∷ 321 ∷ []  -- slot 1

-- two pairs, of indexes 0 and 3, replayed
abbrev pub one_at_home : List ℕ
one_at_home =
    1 ∷ 1 ∷ 1 ∷ 1025 ∷  -- header
    601 ∷ 102 ∷ 103 ∷ 602 ∷  -- record 0
    0 ∷ 201 ∷ 202 ∷ 203 ∷ 204 ∷ 205 ∷ 206 ∷ 207 ∷ 208 ∷ 209 ∷ 210 ∷ 211 ∷ 212 ∷ 213 ∷ 214 ∷ 215 ∷ 216 ∷ 217 ∷ 218 ∷ 219 ∷ 220 ∷ 221 ∷  -- slot 0
    0 ∷ 18 ∷ 0 ∷ 601 ∷ 3 ∷ 602 ∷ 306 ∷ 307 ∷ 308 ∷ 309 ∷ 310 ∷ 311 ∷ 312 ∷ 313 ∷ 314 ∷ 315 ∷ 316 ∷ 317 ∷ 318 ∷ 319 ∷ 320 ∷ 321 ∷ []  -- slot 1

-- one pair, of index 3, replayed, and index 0 after it left alone
abbrev pub one_past_home : List ℕ
one_past_home =
    1 ∷ 1 ∷ 1 ∷ 1025 ∷  -- header
    101 ∷ 102 ∷ 103 ∷ 601 ∷  -- record 0
    0 ∷ 201 ∷ 202 ∷ 203 ∷ 204 ∷ 205 ∷ 206 ∷ 207 ∷ 208 ∷ 209 ∷ 210 ∷ 211 ∷ 212 ∷ 213 ∷ 214 ∷ 215 ∷ 216 ∷ 217 ∷ 218 ∷ 219 ∷ 220 ∷ 221 ∷  -- slot 0
    0 ∷ 17 ∷ 3 ∷ 601 ∷ 0 ∷ 602 ∷ 306 ∷ 307 ∷ 308 ∷ 309 ∷ 310 ∷ 311 ∷ 312 ∷ 313 ∷ 314 ∷ 315 ∷ 316 ∷ 317 ∷ 318 ∷ 319 ∷ 320 ∷ 321 ∷ []  -- slot 1

-- ---- images with N 2 and M 1: home words 0 to 7 are words 4 to 11, slot 0 is in words 12 to 33, slot 1 in 34 to 55

-- copies of record 1 and then of record 0 finished into slot 0, four words changed: the indexes ascend over both
abbrev pub two_four : List ℕ
two_four =
    1 ∷ 2 ∷ 1 ∷ 1025 ∷  -- header
    101 ∷ 102 ∷ 103 ∷ 104 ∷  -- record 0
    111 ∷ 112 ∷ 113 ∷ 114 ∷  -- record 1
    7 ∷ 20 ∷ 2 ∷ 503 ∷ 3 ∷ 504 ∷ 5 ∷ 512 ∷ 6 ∷ 513 ∷ 210 ∷ 211 ∷ 212 ∷ 213 ∷ 214 ∷ 215 ∷ 216 ∷ 217 ∷ 218 ∷ 219 ∷ 220 ∷ 221 ∷  -- slot 0
    0 ∷ 301 ∷ 302 ∷ 303 ∷ 304 ∷ 305 ∷ 306 ∷ 307 ∷ 308 ∷ 309 ∷ 310 ∷ 311 ∷ 312 ∷ 313 ∷ 314 ∷ 315 ∷ 316 ∷ 317 ∷ 318 ∷ 319 ∷ 320 ∷ 321 ∷ []  -- slot 1

-- five words changed: the full form, in the order of the first writes
abbrev pub two_five : List ℕ
two_five =
    1 ∷ 2 ∷ 1 ∷ 1025 ∷  -- header
    101 ∷ 102 ∷ 103 ∷ 104 ∷  -- record 0
    111 ∷ 112 ∷ 113 ∷ 114 ∷  -- record 1
    7 ∷ 2 ∷ 1 ∷ 511 ∷ 112 ∷ 513 ∷ 514 ∷ 0 ∷ 501 ∷ 502 ∷ 103 ∷ 104 ∷ 212 ∷ 213 ∷ 214 ∷ 215 ∷ 216 ∷ 217 ∷ 218 ∷ 219 ∷ 220 ∷ 221 ∷  -- slot 0
    0 ∷ 301 ∷ 302 ∷ 303 ∷ 304 ∷ 305 ∷ 306 ∷ 307 ∷ 308 ∷ 309 ∷ 310 ∷ 311 ∷ 312 ∷ 313 ∷ 314 ∷ 315 ∷ 316 ∷ 317 ∷ 318 ∷ 319 ∷ 320 ∷ 321 ∷ []  -- slot 1

-- a full log of this number at place 0, with record 1; a short log of number 4 at place 1, with index 2 and this one
abbrev pub two_mixed : ℕ → ℕ → List ℕ
two_mixed p i =
    1 ∷ 2 ∷ 1 ∷ 1025 ∷  -- header
    101 ∷ 102 ∷ 103 ∷ 104 ∷  -- record 0
    111 ∷ 112 ∷ 113 ∷ 114 ∷  -- record 1
    p ∷ 1 ∷ 1 ∷ 511 ∷ 512 ∷ 513 ∷ 514 ∷ 207 ∷ 208 ∷ 209 ∷ 210 ∷ 211 ∷ 212 ∷ 213 ∷ 214 ∷ 215 ∷ 216 ∷ 217 ∷ 218 ∷ 219 ∷ 220 ∷ 221 ∷  -- slot 0
    4 ∷ 18 ∷ 2 ∷ 603 ∷ i ∷ 612 ∷ 306 ∷ 307 ∷ 308 ∷ 309 ∷ 310 ∷ 311 ∷ 312 ∷ 313 ∷ 314 ∷ 315 ∷ 316 ∷ 317 ∷ 318 ∷ 319 ∷ 320 ∷ 321 ∷ []  -- slot 1

-- the full log has number 5 and the second index is 5: the short log is replayed, and its slot emptied
abbrev pub two_mixed_first : List ℕ
two_mixed_first =
    1 ∷ 2 ∷ 1 ∷ 1025 ∷  -- header
    101 ∷ 102 ∷ 603 ∷ 104 ∷  -- record 0
    111 ∷ 612 ∷ 113 ∷ 114 ∷  -- record 1
    5 ∷ 1 ∷ 1 ∷ 511 ∷ 512 ∷ 513 ∷ 514 ∷ 207 ∷ 208 ∷ 209 ∷ 210 ∷ 211 ∷ 212 ∷ 213 ∷ 214 ∷ 215 ∷ 216 ∷ 217 ∷ 218 ∷ 219 ∷ 220 ∷ 221 ∷  -- slot 0
    0 ∷ 18 ∷ 2 ∷ 603 ∷ 5 ∷ 612 ∷ 306 ∷ 307 ∷ 308 ∷ 309 ∷ 310 ∷ 311 ∷ 312 ∷ 313 ∷ 314 ∷ 315 ∷ 316 ∷ 317 ∷ 318 ∷ 319 ∷ 320 ∷ 321 ∷ []  -- slot 1

-- then the full one, over what the short one left
abbrev pub two_mixed_home : List ℕ
two_mixed_home =
    1 ∷ 2 ∷ 1 ∷ 1025 ∷  -- header
    101 ∷ 102 ∷ 603 ∷ 104 ∷  -- record 0
    511 ∷ 512 ∷ 513 ∷ 514 ∷  -- record 1
    0 ∷ 1 ∷ 1 ∷ 511 ∷ 512 ∷ 513 ∷ 514 ∷ 207 ∷ 208 ∷ 209 ∷ 210 ∷ 211 ∷ 212 ∷ 213 ∷ 214 ∷ 215 ∷ 216 ∷ 217 ∷ 218 ∷ 219 ∷ 220 ∷ 221 ∷  -- slot 0
    0 ∷ 18 ∷ 2 ∷ 603 ∷ 5 ∷ 612 ∷ 306 ∷ 307 ∷ 308 ∷ 309 ∷ 310 ∷ 311 ∷ 312 ∷ 313 ∷ 314 ∷ 315 ∷ 316 ∷ 317 ∷ 318 ∷ 319 ∷ 320 ∷ 321 ∷ []  -- slot 1

-- the full log has number 4 too and the second index is 3: the full log is replayed
abbrev pub two_apart_first : List ℕ
two_apart_first =
    1 ∷ 2 ∷ 1 ∷ 1025 ∷  -- header
    101 ∷ 102 ∷ 103 ∷ 104 ∷  -- record 0
    511 ∷ 512 ∷ 513 ∷ 514 ∷  -- record 1
    0 ∷ 1 ∷ 1 ∷ 511 ∷ 512 ∷ 513 ∷ 514 ∷ 207 ∷ 208 ∷ 209 ∷ 210 ∷ 211 ∷ 212 ∷ 213 ∷ 214 ∷ 215 ∷ 216 ∷ 217 ∷ 218 ∷ 219 ∷ 220 ∷ 221 ∷  -- slot 0
    4 ∷ 18 ∷ 2 ∷ 603 ∷ 3 ∷ 612 ∷ 306 ∷ 307 ∷ 308 ∷ 309 ∷ 310 ∷ 311 ∷ 312 ∷ 313 ∷ 314 ∷ 315 ∷ 316 ∷ 317 ∷ 318 ∷ 319 ∷ 320 ∷ 321 ∷ []  -- slot 1

-- a short log of this number without pairs at place 0, with index 5 where a pair would be; a full log of number 4 at place 1, with record 1
abbrev pub two_none : ℕ → List ℕ
two_none p =
    1 ∷ 2 ∷ 1 ∷ 1025 ∷  -- header
    101 ∷ 102 ∷ 103 ∷ 104 ∷  -- record 0
    111 ∷ 112 ∷ 113 ∷ 114 ∷  -- record 1
    p ∷ 16 ∷ 5 ∷ 612 ∷ 204 ∷ 205 ∷ 206 ∷ 207 ∷ 208 ∷ 209 ∷ 210 ∷ 211 ∷ 212 ∷ 213 ∷ 214 ∷ 215 ∷ 216 ∷ 217 ∷ 218 ∷ 219 ∷ 220 ∷ 221 ∷  -- slot 0
    4 ∷ 1 ∷ 1 ∷ 511 ∷ 512 ∷ 513 ∷ 514 ∷ 307 ∷ 308 ∷ 309 ∷ 310 ∷ 311 ∷ 312 ∷ 313 ∷ 314 ∷ 315 ∷ 316 ∷ 317 ∷ 318 ∷ 319 ∷ 320 ∷ 321 ∷ []  -- slot 1

-- two short logs of one number: the first word of record 1 in the one, a word of record 0 and the last word of record 1 in the other
abbrev pub two_shorts : List ℕ
two_shorts =
    1 ∷ 2 ∷ 1 ∷ 1025 ∷  -- header
    101 ∷ 102 ∷ 103 ∷ 104 ∷  -- record 0
    111 ∷ 112 ∷ 113 ∷ 114 ∷  -- record 1
    4 ∷ 17 ∷ 4 ∷ 511 ∷ 204 ∷ 205 ∷ 206 ∷ 207 ∷ 208 ∷ 209 ∷ 210 ∷ 211 ∷ 212 ∷ 213 ∷ 214 ∷ 215 ∷ 216 ∷ 217 ∷ 218 ∷ 219 ∷ 220 ∷ 221 ∷  -- slot 0
    4 ∷ 18 ∷ 2 ∷ 603 ∷ 7 ∷ 614 ∷ 306 ∷ 307 ∷ 308 ∷ 309 ∷ 310 ∷ 311 ∷ 312 ∷ 313 ∷ 314 ∷ 315 ∷ 316 ∷ 317 ∷ 318 ∷ 319 ∷ 320 ∷ 321 ∷ []  -- slot 1

-- ---- images with N 4 and M 1: home words 0 to 15 are words 4 to 19, slot 0 is in words 20 to 41, slot 1 in 42 to 63

-- copies of records 3, 0 and 2 finished into slot 0, with 4, no and 3 words changed
abbrev pub three_seven : List ℕ
three_seven =
    1 ∷ 4 ∷ 1 ∷ 1025 ∷  -- header
    101 ∷ 102 ∷ 103 ∷ 104 ∷  -- record 0
    111 ∷ 112 ∷ 113 ∷ 114 ∷  -- record 1
    121 ∷ 122 ∷ 123 ∷ 124 ∷  -- record 2
    131 ∷ 132 ∷ 133 ∷ 134 ∷  -- record 3
    7 ∷ 23 ∷ 8 ∷ 521 ∷ 9 ∷ 522 ∷ 11 ∷ 524 ∷ 12 ∷ 531 ∷ 13 ∷ 532 ∷ 14 ∷ 533 ∷ 15 ∷ 534 ∷ 216 ∷ 217 ∷ 218 ∷ 219 ∷ 220 ∷ 221 ∷  -- slot 0
    0 ∷ 301 ∷ 302 ∷ 303 ∷ 304 ∷ 305 ∷ 306 ∷ 307 ∷ 308 ∷ 309 ∷ 310 ∷ 311 ∷ 312 ∷ 313 ∷ 314 ∷ 315 ∷ 316 ∷ 317 ∷ 318 ∷ 319 ∷ 320 ∷ 321 ∷ []  -- slot 1

-- the same records with 4, 1 and 3 words changed: the full form
abbrev pub three_eight : List ℕ
three_eight =
    1 ∷ 4 ∷ 1 ∷ 1025 ∷  -- header
    101 ∷ 102 ∷ 103 ∷ 104 ∷  -- record 0
    111 ∷ 112 ∷ 113 ∷ 114 ∷  -- record 1
    121 ∷ 122 ∷ 123 ∷ 124 ∷  -- record 2
    131 ∷ 132 ∷ 133 ∷ 134 ∷  -- record 3
    7 ∷ 3 ∷ 3 ∷ 531 ∷ 532 ∷ 533 ∷ 534 ∷ 0 ∷ 101 ∷ 102 ∷ 503 ∷ 104 ∷ 2 ∷ 521 ∷ 522 ∷ 123 ∷ 524 ∷ 217 ∷ 218 ∷ 219 ∷ 220 ∷ 221 ∷  -- slot 0
    0 ∷ 301 ∷ 302 ∷ 303 ∷ 304 ∷ 305 ∷ 306 ∷ 307 ∷ 308 ∷ 309 ∷ 310 ∷ 311 ∷ 312 ∷ 313 ∷ 314 ∷ 315 ∷ 316 ∷ 317 ∷ 318 ∷ 319 ∷ 320 ∷ 321 ∷ []  -- slot 1

-- copies of records 3, 0, 2 and 1 finished into slot 0, with 2, 3, 4 and no words changed
abbrev pub four_nine : List ℕ
four_nine =
    1 ∷ 4 ∷ 1 ∷ 1025 ∷  -- header
    101 ∷ 102 ∷ 103 ∷ 104 ∷  -- record 0
    111 ∷ 112 ∷ 113 ∷ 114 ∷  -- record 1
    121 ∷ 122 ∷ 123 ∷ 124 ∷  -- record 2
    131 ∷ 132 ∷ 133 ∷ 134 ∷  -- record 3
    7 ∷ 25 ∷ 0 ∷ 501 ∷ 1 ∷ 502 ∷ 3 ∷ 504 ∷ 8 ∷ 521 ∷ 9 ∷ 522 ∷ 10 ∷ 523 ∷ 11 ∷ 524 ∷ 12 ∷ 531 ∷ 14 ∷ 533 ∷ 220 ∷ 221 ∷  -- slot 0
    0 ∷ 301 ∷ 302 ∷ 303 ∷ 304 ∷ 305 ∷ 306 ∷ 307 ∷ 308 ∷ 309 ∷ 310 ∷ 311 ∷ 312 ∷ 313 ∷ 314 ∷ 315 ∷ 316 ∷ 317 ∷ 318 ∷ 319 ∷ 320 ∷ 321 ∷ []  -- slot 1

-- replayed
abbrev pub four_nine_home : List ℕ
four_nine_home =
    1 ∷ 4 ∷ 1 ∷ 1025 ∷  -- header
    501 ∷ 502 ∷ 103 ∷ 504 ∷  -- record 0
    111 ∷ 112 ∷ 113 ∷ 114 ∷  -- record 1
    521 ∷ 522 ∷ 523 ∷ 524 ∷  -- record 2
    531 ∷ 132 ∷ 533 ∷ 134 ∷  -- record 3
    0 ∷ 25 ∷ 0 ∷ 501 ∷ 1 ∷ 502 ∷ 3 ∷ 504 ∷ 8 ∷ 521 ∷ 9 ∷ 522 ∷ 10 ∷ 523 ∷ 11 ∷ 524 ∷ 12 ∷ 531 ∷ 14 ∷ 533 ∷ 220 ∷ 221 ∷  -- slot 0
    0 ∷ 301 ∷ 302 ∷ 303 ∷ 304 ∷ 305 ∷ 306 ∷ 307 ∷ 308 ∷ 309 ∷ 310 ∷ 311 ∷ 312 ∷ 313 ∷ 314 ∷ 315 ∷ 316 ∷ 317 ∷ 318 ∷ 319 ∷ 320 ∷ 321 ∷ []  -- slot 1

-- the same records with 2, 3, 4 and 1 words changed: the full form
abbrev pub four_ten : List ℕ
four_ten =
    1 ∷ 4 ∷ 1 ∷ 1025 ∷  -- header
    101 ∷ 102 ∷ 103 ∷ 104 ∷  -- record 0
    111 ∷ 112 ∷ 113 ∷ 114 ∷  -- record 1
    121 ∷ 122 ∷ 123 ∷ 124 ∷  -- record 2
    131 ∷ 132 ∷ 133 ∷ 134 ∷  -- record 3
    7 ∷ 4 ∷ 3 ∷ 531 ∷ 132 ∷ 533 ∷ 134 ∷ 0 ∷ 501 ∷ 502 ∷ 103 ∷ 504 ∷ 2 ∷ 521 ∷ 522 ∷ 523 ∷ 524 ∷ 1 ∷ 111 ∷ 112 ∷ 113 ∷ 514 ∷  -- slot 0
    0 ∷ 301 ∷ 302 ∷ 303 ∷ 304 ∷ 305 ∷ 306 ∷ 307 ∷ 308 ∷ 309 ∷ 310 ∷ 311 ∷ 312 ∷ 313 ∷ 314 ∷ 315 ∷ 316 ∷ 317 ∷ 318 ∷ 319 ∷ 320 ∷ 321 ∷ []  -- slot 1

-- ---- an image with N 6 and M 1, 72 words: home words 0 to 23 are words 4 to 27, slot 0 is in words 28 to 49, slot 1 in 50 to 71

-- number 3 at place 0, with this word 1. Ten pairs follow whose indexes ascend; read in the full form they are copies of records 0, 1, 5
-- and 2
abbrev pub six_counted : ℕ → List ℕ
six_counted c =
    1 ∷ 6 ∷ 1 ∷ 1025 ∷  -- header
    101 ∷ 102 ∷ 103 ∷ 104 ∷  -- record 0
    111 ∷ 112 ∷ 113 ∷ 114 ∷  -- record 1
    121 ∷ 122 ∷ 123 ∷ 124 ∷  -- record 2
    131 ∷ 132 ∷ 133 ∷ 134 ∷  -- record 3
    141 ∷ 142 ∷ 143 ∷ 144 ∷  -- record 4
    151 ∷ 152 ∷ 153 ∷ 154 ∷  -- record 5
    3 ∷ c ∷ 0 ∷ 601 ∷ 1 ∷ 602 ∷ 2 ∷ 1 ∷ 3 ∷ 604 ∷ 4 ∷ 611 ∷ 5 ∷ 612 ∷ 8 ∷ 621 ∷ 13 ∷ 2 ∷ 18 ∷ 643 ∷ 23 ∷ 654 ∷  -- slot 0
    0 ∷ 301 ∷ 302 ∷ 303 ∷ 304 ∷ 305 ∷ 306 ∷ 307 ∷ 308 ∷ 309 ∷ 310 ∷ 311 ∷ 312 ∷ 313 ∷ 314 ∷ 315 ∷ 316 ∷ 317 ∷ 318 ∷ 319 ∷ 320 ∷ 321 ∷ []  -- slot 1

-- ---- desks: the clock is 7; session 0 is active with start 5 and has reserved slot 0

abbrev pub edits : ℕ → List RecordCopy → Session
edits count copies = record { phase = Active 5; count = count; slot = 0; copies = copies }

-- N 1: a copy of record 0
abbrev pub one_edit : List ℕ → Desk
one_edit ws = desk_of 7 1 1 (1 ∷ 0 ∷ []) (one_copy (Active 5) 0 ws)

-- N 2: copies of record 1 and then of record 0
abbrev pub two_edits : List ℕ → List ℕ → Desk
two_edits vs ws =
    desk_of 7 2 1 (1 ∷ 1 ∷ []) (edits 2 (record { rec = 1; words = vs } ∷ record { rec = 0; words = ws } ∷ zero_copy ∷ zero_copy ∷ []))

-- N 4: these marks of records 0 to 3, and this many copies
abbrev pub more_edits : List ℕ → ℕ → List RecordCopy → Desk
more_edits marks count copies =
    record { clock = 7; n = 4; m = 1; holders = marks ++ replicate 252 0; sessions = edits count copies ∷ replicate 15 idle_session; order = replicate 16 0 }

-- copies of records 3, 0 and 2, seven words and eight words changed
abbrev pub seven_copies : List RecordCopy
seven_copies =
    record { rec = 3; words = 531 ∷ 532 ∷ 533 ∷ 534 ∷ [] } ∷
    record { rec = 0; words = 101 ∷ 102 ∷ 103 ∷ 104 ∷ [] } ∷
    record { rec = 2; words = 521 ∷ 522 ∷ 123 ∷ 524 ∷ [] } ∷ zero_copy ∷ []

abbrev pub eight_copies : List RecordCopy
eight_copies =
    record { rec = 3; words = 531 ∷ 532 ∷ 533 ∷ 534 ∷ [] } ∷
    record { rec = 0; words = 101 ∷ 102 ∷ 503 ∷ 104 ∷ [] } ∷
    record { rec = 2; words = 521 ∷ 522 ∷ 123 ∷ 524 ∷ [] } ∷ zero_copy ∷ []

abbrev pub seven_edits : Desk
seven_edits = more_edits (1 ∷ 0 ∷ 1 ∷ 1 ∷ []) 3 seven_copies

abbrev pub eight_edits : Desk
eight_edits = more_edits (1 ∷ 0 ∷ 1 ∷ 1 ∷ []) 3 eight_copies

-- copies of records 3, 0, 2 and 1, nine words and ten words changed
abbrev pub nine_copies : List RecordCopy
nine_copies =
    record { rec = 3; words = 531 ∷ 132 ∷ 533 ∷ 134 ∷ [] } ∷
    record { rec = 0; words = 501 ∷ 502 ∷ 103 ∷ 504 ∷ [] } ∷
    record { rec = 2; words = 521 ∷ 522 ∷ 523 ∷ 524 ∷ [] } ∷
    record { rec = 1; words = 111 ∷ 112 ∷ 113 ∷ 114 ∷ [] } ∷ []

abbrev pub ten_copies : List RecordCopy
ten_copies =
    record { rec = 3; words = 531 ∷ 132 ∷ 533 ∷ 134 ∷ [] } ∷
    record { rec = 0; words = 501 ∷ 502 ∷ 103 ∷ 504 ∷ [] } ∷
    record { rec = 2; words = 521 ∷ 522 ∷ 523 ∷ 524 ∷ [] } ∷
    record { rec = 1; words = 111 ∷ 112 ∷ 113 ∷ 514 ∷ [] } ∷ []

abbrev pub nine_edits : Desk
nine_edits = more_edits (1 ∷ 1 ∷ 1 ∷ 1 ∷ []) 4 nine_copies

abbrev pub ten_edits : Desk
ten_edits = more_edits (1 ∷ 1 ∷ 1 ∷ 1 ∷ []) 4 ten_copies

pub record ShortInDigits : Type 0 where
  -- finish of one copy into slot 0, whose first word is 8: no word changed, one word, two words, and three words in the full form
  pub finish-same : finish_leaves one_empty (one_edit (101 ∷ 102 ∷ 103 ∷ 104 ∷ []))
      ≡ record {
        told = sealed_at 7;
        entries = 4;
        image = one_same 7;
        trace =
            9 ∷ 16 ∷  -- short, no pair
            18446744073709551615 ∷ 0 ∷  -- a fence
            8 ∷ 7 ∷  -- the persist number
            18446744073709551615 ∷ 0 ∷  -- a fence
            908 ∷ 909 ∷ 910 ∷ 911 ∷ 912 ∷ 913 ∷ 914 ∷ 915 ∷
            916 ∷ 917 ∷ 918 ∷ 919 ∷ 920 ∷ 921 ∷ 922 ∷ 923 ∷ 924 ∷ 925 ∷ 926 ∷ 927 ∷ 928 ∷ 929 ∷ 930 ∷ 931 ∷
            932 ∷ 933 ∷ 934 ∷ 935 ∷ 936 ∷ 937 ∷ 938 ∷ 939 ∷ 940 ∷ 941 ∷ 942 ∷ 943 ∷ 944 ∷ 945 ∷ 946 ∷ 947 ∷ [];
      }
  pub finish-one-word : finish_leaves one_empty (one_edit (101 ∷ 502 ∷ 103 ∷ 104 ∷ []))
      ≡ record {
        told = sealed_at 7;
        entries = 6;
        image = one_word;
        trace =
            9 ∷ 17 ∷  -- short, one pair
            10 ∷ 1 ∷ 11 ∷ 502 ∷  -- the index, the new word
            18446744073709551615 ∷ 0 ∷  -- a fence
            8 ∷ 7 ∷  -- the persist number
            18446744073709551615 ∷ 0 ∷  -- a fence
            912 ∷ 913 ∷ 914 ∷ 915 ∷
            916 ∷ 917 ∷ 918 ∷ 919 ∷ 920 ∷ 921 ∷ 922 ∷ 923 ∷ 924 ∷ 925 ∷ 926 ∷ 927 ∷ 928 ∷ 929 ∷ 930 ∷ 931 ∷
            932 ∷ 933 ∷ 934 ∷ 935 ∷ 936 ∷ 937 ∷ 938 ∷ 939 ∷ 940 ∷ 941 ∷ 942 ∷ 943 ∷ 944 ∷ 945 ∷ 946 ∷ 947 ∷ [];
      }
  pub finish-two-words : finish_leaves one_empty (one_edit (501 ∷ 102 ∷ 103 ∷ 504 ∷ []))
      ≡ record {
        told = sealed_at 7;
        entries = 8;
        image = one_ends;
        trace =
            9 ∷ 18 ∷  -- short, two pairs
            10 ∷ 0 ∷ 11 ∷ 501 ∷  -- word 0
            12 ∷ 3 ∷ 13 ∷ 504 ∷  -- word 3
            18446744073709551615 ∷ 0 ∷  -- a fence
            8 ∷ 7 ∷  -- the persist number
            18446744073709551615 ∷ 0 ∷  -- a fence
            916 ∷ 917 ∷ 918 ∷ 919 ∷ 920 ∷ 921 ∷ 922 ∷ 923 ∷ 924 ∷ 925 ∷ 926 ∷ 927 ∷ 928 ∷ 929 ∷ 930 ∷ 931 ∷
            932 ∷ 933 ∷ 934 ∷ 935 ∷ 936 ∷ 937 ∷ 938 ∷ 939 ∷ 940 ∷ 941 ∷ 942 ∷ 943 ∷ 944 ∷ 945 ∷ 946 ∷ 947 ∷ [];
      }
  pub finish-three-words : finish_leaves one_empty (one_edit (101 ∷ 502 ∷ 503 ∷ 504 ∷ []))
      ≡ record {
        told = sealed_at 7;
        entries = 9;
        image = one_three;
        trace =
            9 ∷ 1 ∷  -- the count
            10 ∷ 0 ∷  -- the record number
            11 ∷ 101 ∷ 12 ∷ 502 ∷ 13 ∷ 503 ∷ 14 ∷ 504 ∷  -- the record words
            18446744073709551615 ∷ 0 ∷  -- a fence
            8 ∷ 7 ∷  -- the persist number
            18446744073709551615 ∷ 0 ∷  -- a fence
            918 ∷ 919 ∷ 920 ∷ 921 ∷ 922 ∷ 923 ∷ 924 ∷ 925 ∷ 926 ∷ 927 ∷ 928 ∷ 929 ∷ 930 ∷ 931 ∷
            932 ∷ 933 ∷ 934 ∷ 935 ∷ 936 ∷ 937 ∷ 938 ∷ 939 ∷ 940 ∷ 941 ∷ 942 ∷ 943 ∷ 944 ∷ 945 ∷ 946 ∷ 947 ∷ [];
      }
  -- finish of copies of record 1 and then of record 0 into slot 0, whose first word is 12: four words, and five in the full form
  pub finish-two-four : finish_leaves two_empty (two_edits (111 ∷ 512 ∷ 513 ∷ 114 ∷ []) (101 ∷ 102 ∷ 503 ∷ 504 ∷ []))
      ≡ record {
        told = sealed_at 7;
        entries = 12;
        image = two_four;
        trace =
            13 ∷ 20 ∷  -- short, four pairs
            14 ∷ 2 ∷ 15 ∷ 503 ∷ 16 ∷ 3 ∷ 17 ∷ 504 ∷  -- words 2 and 3 of record 0
            18 ∷ 5 ∷ 19 ∷ 512 ∷ 20 ∷ 6 ∷ 21 ∷ 513 ∷  -- words 1 and 2 of record 1
            18446744073709551615 ∷ 0 ∷  -- a fence
            12 ∷ 7 ∷  -- the persist number
            18446744073709551615 ∷ 0 ∷  -- a fence
            924 ∷ 925 ∷ 926 ∷ 927 ∷ 928 ∷ 929 ∷ 930 ∷ 931 ∷
            932 ∷ 933 ∷ 934 ∷ 935 ∷ 936 ∷ 937 ∷ 938 ∷ 939 ∷ 940 ∷ 941 ∷ 942 ∷ 943 ∷ 944 ∷ 945 ∷ 946 ∷ 947 ∷ [];
      }
  pub finish-two-five : finish_leaves two_empty (two_edits (511 ∷ 112 ∷ 513 ∷ 514 ∷ []) (501 ∷ 502 ∷ 103 ∷ 104 ∷ []))
      ≡ record {
        told = sealed_at 7;
        entries = 14;
        image = two_five;
        trace =
            13 ∷ 2 ∷  -- the count
            14 ∷ 1 ∷  -- the first copy: the record number
            15 ∷ 511 ∷ 16 ∷ 112 ∷ 17 ∷ 513 ∷ 18 ∷ 514 ∷  -- the record words
            19 ∷ 0 ∷  -- the second copy: the record number
            20 ∷ 501 ∷ 21 ∷ 502 ∷ 22 ∷ 103 ∷ 23 ∷ 104 ∷  -- the record words
            18446744073709551615 ∷ 0 ∷  -- a fence
            12 ∷ 7 ∷  -- the persist number
            18446744073709551615 ∷ 0 ∷  -- a fence
            928 ∷ 929 ∷ 930 ∷ 931 ∷
            932 ∷ 933 ∷ 934 ∷ 935 ∷ 936 ∷ 937 ∷ 938 ∷ 939 ∷ 940 ∷ 941 ∷ 942 ∷ 943 ∷ 944 ∷ 945 ∷ 946 ∷ 947 ∷ [];
      }
  -- finish of copies of records 3, 0 and 2 into slot 0, whose first word is 20: seven words, none of them of record 0, and eight in the full form
  pub finish-three-seven : finish_leaves four_empty seven_edits
      ≡ record {
        told = sealed_at 7;
        entries = 18;
        image = three_seven;
        trace =
            21 ∷ 23 ∷  -- short, seven pairs
            22 ∷ 8 ∷ 23 ∷ 521 ∷ 24 ∷ 9 ∷ 25 ∷ 522 ∷ 26 ∷ 11 ∷ 27 ∷ 524 ∷  -- words 0, 1 and 3 of record 2
            28 ∷ 12 ∷ 29 ∷ 531 ∷ 30 ∷ 13 ∷ 31 ∷ 532 ∷ 32 ∷ 14 ∷ 33 ∷ 533 ∷ 34 ∷ 15 ∷ 35 ∷ 534 ∷  -- words 0 to 3 of record 3
            18446744073709551615 ∷ 0 ∷  -- a fence
            20 ∷ 7 ∷  -- the persist number
            18446744073709551615 ∷ 0 ∷  -- a fence
            936 ∷ 937 ∷ 938 ∷ 939 ∷ 940 ∷ 941 ∷ 942 ∷ 943 ∷ 944 ∷ 945 ∷ 946 ∷ 947 ∷ [];
      }
  pub finish-three-eight : finish_leaves four_empty eight_edits
      ≡ record {
        told = sealed_at 7;
        entries = 19;
        image = three_eight;
        trace =
            21 ∷ 3 ∷  -- the count
            22 ∷ 3 ∷  -- the first copy: the record number
            23 ∷ 531 ∷ 24 ∷ 532 ∷ 25 ∷ 533 ∷ 26 ∷ 534 ∷  -- the record words
            27 ∷ 0 ∷  -- the second copy: the record number
            28 ∷ 101 ∷ 29 ∷ 102 ∷ 30 ∷ 503 ∷ 31 ∷ 104 ∷  -- the record words
            32 ∷ 2 ∷  -- the third copy: the record number
            33 ∷ 521 ∷ 34 ∷ 522 ∷ 35 ∷ 123 ∷ 36 ∷ 524 ∷  -- the record words
            18446744073709551615 ∷ 0 ∷  -- a fence
            20 ∷ 7 ∷  -- the persist number
            18446744073709551615 ∷ 0 ∷  -- a fence
            938 ∷ 939 ∷ 940 ∷ 941 ∷ 942 ∷ 943 ∷ 944 ∷ 945 ∷ 946 ∷ 947 ∷ [];
      }
  -- finish of copies of records 3, 0, 2 and 1: nine words, none of them of record 1, and ten in the full form
  pub finish-four-nine : finish_leaves four_empty nine_edits
      ≡ record {
        told = sealed_at 7;
        entries = 22;
        image = four_nine;
        trace =
            21 ∷ 25 ∷  -- short, nine pairs
            22 ∷ 0 ∷ 23 ∷ 501 ∷ 24 ∷ 1 ∷ 25 ∷ 502 ∷ 26 ∷ 3 ∷ 27 ∷ 504 ∷  -- words 0, 1 and 3 of record 0
            28 ∷ 8 ∷ 29 ∷ 521 ∷ 30 ∷ 9 ∷ 31 ∷ 522 ∷ 32 ∷ 10 ∷ 33 ∷ 523 ∷ 34 ∷ 11 ∷ 35 ∷ 524 ∷  -- words 0 to 3 of record 2
            36 ∷ 12 ∷ 37 ∷ 531 ∷ 38 ∷ 14 ∷ 39 ∷ 533 ∷  -- words 0 and 2 of record 3
            18446744073709551615 ∷ 0 ∷  -- a fence
            20 ∷ 7 ∷  -- the persist number
            18446744073709551615 ∷ 0 ∷  -- a fence
            944 ∷ 945 ∷ 946 ∷ 947 ∷ [];
      }
  pub finish-four-ten : finish_leaves four_empty ten_edits
      ≡ record {
        told = sealed_at 7;
        entries = 24;
        image = four_ten;
        trace =
            21 ∷ 4 ∷  -- the count
            22 ∷ 3 ∷  -- the first copy: the record number
            23 ∷ 531 ∷ 24 ∷ 132 ∷ 25 ∷ 533 ∷ 26 ∷ 134 ∷  -- the record words
            27 ∷ 0 ∷  -- the second copy: the record number
            28 ∷ 501 ∷ 29 ∷ 502 ∷ 30 ∷ 103 ∷ 31 ∷ 504 ∷  -- the record words
            32 ∷ 2 ∷  -- the third copy: the record number
            33 ∷ 521 ∷ 34 ∷ 522 ∷ 35 ∷ 523 ∷ 36 ∷ 524 ∷  -- the record words
            37 ∷ 1 ∷  -- the fourth copy: the record number
            38 ∷ 111 ∷ 39 ∷ 112 ∷ 40 ∷ 113 ∷ 41 ∷ 514 ∷  -- the record words
            18446744073709551615 ∷ 0 ∷  -- a fence
            20 ∷ 7 ∷  -- the persist number
            18446744073709551615 ∷ 0 ∷ [];  -- a fence
      }
  -- recover of what three of these left: no words, one word, nine words
  pub recover-same : recover_leaves (one_same 7)
      ≡ record {
        told = replayed 7;
        entries = 3;
        image = one_same 0;
        trace =
            18446744073709551615 ∷ 0 ∷  -- a fence
            8 ∷ 0 ∷  -- the persist number
            18446744073709551615 ∷ 0 ∷  -- a fence
            906 ∷ 907 ∷ 908 ∷ 909 ∷ 910 ∷ 911 ∷ 912 ∷ 913 ∷ 914 ∷ 915 ∷
            916 ∷ 917 ∷ 918 ∷ 919 ∷ 920 ∷ 921 ∷ 922 ∷ 923 ∷ 924 ∷ 925 ∷ 926 ∷ 927 ∷ 928 ∷ 929 ∷ 930 ∷ 931 ∷
            932 ∷ 933 ∷ 934 ∷ 935 ∷ 936 ∷ 937 ∷ 938 ∷ 939 ∷ 940 ∷ 941 ∷ 942 ∷ 943 ∷ 944 ∷ 945 ∷ 946 ∷ 947 ∷ [];
      }
  pub recover-one-word : recover_leaves one_word
      ≡ record {
        told = replayed 7;
        entries = 4;
        image = one_word_home;
        trace =
            5 ∷ 502 ∷  -- word 1 of record 0
            18446744073709551615 ∷ 0 ∷  -- a fence
            8 ∷ 0 ∷  -- the persist number
            18446744073709551615 ∷ 0 ∷  -- a fence
            908 ∷ 909 ∷ 910 ∷ 911 ∷ 912 ∷ 913 ∷ 914 ∷ 915 ∷
            916 ∷ 917 ∷ 918 ∷ 919 ∷ 920 ∷ 921 ∷ 922 ∷ 923 ∷ 924 ∷ 925 ∷ 926 ∷ 927 ∷ 928 ∷ 929 ∷ 930 ∷ 931 ∷
            932 ∷ 933 ∷ 934 ∷ 935 ∷ 936 ∷ 937 ∷ 938 ∷ 939 ∷ 940 ∷ 941 ∷ 942 ∷ 943 ∷ 944 ∷ 945 ∷ 946 ∷ 947 ∷ [];
      }
  pub recover-nine : recover_leaves four_nine
      ≡ record {
        told = replayed 7;
        entries = 12;
        image = four_nine_home;
        trace =
            4 ∷ 501 ∷ 5 ∷ 502 ∷ 7 ∷ 504 ∷  -- record 0
            12 ∷ 521 ∷ 13 ∷ 522 ∷ 14 ∷ 523 ∷ 15 ∷ 524 ∷  -- record 2
            16 ∷ 531 ∷ 18 ∷ 533 ∷  -- record 3
            18446744073709551615 ∷ 0 ∷  -- a fence
            20 ∷ 0 ∷  -- the persist number
            18446744073709551615 ∷ 0 ∷  -- a fence
            924 ∷ 925 ∷ 926 ∷ 927 ∷ 928 ∷ 929 ∷ 930 ∷ 931 ∷
            932 ∷ 933 ∷ 934 ∷ 935 ∷ 936 ∷ 937 ∷ 938 ∷ 939 ∷ 940 ∷ 941 ∷ 942 ∷ 943 ∷ 944 ∷ 945 ∷ 946 ∷ 947 ∷ [];
      }
  -- a short log of number 4 at place 1 and a full log of number 5 at place 0, with record 1 in common: the short one comes first, then the full one
  pub recover-mixed-first : recover_leaves (two_mixed 5 5)
      ≡ record {
        told = replayed 4;
        entries = 5;
        image = two_mixed_first;
        trace =
            6 ∷ 603 ∷  -- word 2 of record 0
            9 ∷ 612 ∷  -- word 1 of record 1
            18446744073709551615 ∷ 0 ∷  -- a fence
            34 ∷ 0 ∷  -- the persist number
            18446744073709551615 ∷ 0 ∷  -- a fence
            910 ∷ 911 ∷ 912 ∷ 913 ∷ 914 ∷ 915 ∷
            916 ∷ 917 ∷ 918 ∷ 919 ∷ 920 ∷ 921 ∷ 922 ∷ 923 ∷ 924 ∷ 925 ∷ 926 ∷ 927 ∷ 928 ∷ 929 ∷ 930 ∷ 931 ∷
            932 ∷ 933 ∷ 934 ∷ 935 ∷ 936 ∷ 937 ∷ 938 ∷ 939 ∷ 940 ∷ 941 ∷ 942 ∷ 943 ∷ 944 ∷ 945 ∷ 946 ∷ 947 ∷ [];
      }
  pub recover-mixed-next : recover_leaves two_mixed_first
      ≡ record {
        told = replayed 5;
        entries = 7;
        image = two_mixed_home;
        trace =
            8 ∷ 511 ∷ 9 ∷ 512 ∷ 10 ∷ 513 ∷ 11 ∷ 514 ∷  -- record 1
            18446744073709551615 ∷ 0 ∷  -- a fence
            12 ∷ 0 ∷  -- the persist number
            18446744073709551615 ∷ 0 ∷  -- a fence
            914 ∷ 915 ∷
            916 ∷ 917 ∷ 918 ∷ 919 ∷ 920 ∷ 921 ∷ 922 ∷ 923 ∷ 924 ∷ 925 ∷ 926 ∷ 927 ∷ 928 ∷ 929 ∷ 930 ∷ 931 ∷
            932 ∷ 933 ∷ 934 ∷ 935 ∷ 936 ∷ 937 ∷ 938 ∷ 939 ∷ 940 ∷ 941 ∷ 942 ∷ 943 ∷ 944 ∷ 945 ∷ 946 ∷ 947 ∷ [];
      }
  -- equal numbers and two forms: index 5 is in the full log's record 1, index 3 is not, and then the lower place comes first
  pub recover-tied-forms : recover_leaves (two_mixed 4 5) ≡ record { told = refusal 13; entries = 0; image = two_mixed 4 5; trace = before }
  pub recover-apart : recover_leaves (two_mixed 4 3)
      ≡ record {
        told = replayed 4;
        entries = 7;
        image = two_apart_first;
        trace =
            8 ∷ 511 ∷ 9 ∷ 512 ∷ 10 ∷ 513 ∷ 11 ∷ 514 ∷  -- record 1
            18446744073709551615 ∷ 0 ∷  -- a fence
            12 ∷ 0 ∷  -- the persist number
            18446744073709551615 ∷ 0 ∷  -- a fence
            914 ∷ 915 ∷
            916 ∷ 917 ∷ 918 ∷ 919 ∷ 920 ∷ 921 ∷ 922 ∷ 923 ∷ 924 ∷ 925 ∷ 926 ∷ 927 ∷ 928 ∷ 929 ∷ 930 ∷ 931 ∷
            932 ∷ 933 ∷ 934 ∷ 935 ∷ 936 ∷ 937 ∷ 938 ∷ 939 ∷ 940 ∷ 941 ∷ 942 ∷ 943 ∷ 944 ∷ 945 ∷ 946 ∷ 947 ∷ [];
      }
  -- two short logs of one number with different words of one record
  pub recover-tied-shorts : recover_leaves two_shorts ≡ record { told = refusal 13; entries = 0; image = two_shorts; trace = before }
  -- equal numbers, and one log has no pair: no record in common, and the lower place comes first
  pub recover-none-touched : recover_leaves (two_none 4)
      ≡ record {
        told = replayed 4;
        entries = 3;
        image = two_none 0;
        trace =
            18446744073709551615 ∷ 0 ∷  -- a fence
            12 ∷ 0 ∷  -- the persist number
            18446744073709551615 ∷ 0 ∷  -- a fence
            906 ∷ 907 ∷ 908 ∷ 909 ∷ 910 ∷ 911 ∷ 912 ∷ 913 ∷ 914 ∷ 915 ∷
            916 ∷ 917 ∷ 918 ∷ 919 ∷ 920 ∷ 921 ∷ 922 ∷ 923 ∷ 924 ∷ 925 ∷ 926 ∷ 927 ∷ 928 ∷ 929 ∷ 930 ∷ 931 ∷
            932 ∷ 933 ∷ 934 ∷ 935 ∷ 936 ∷ 937 ∷ 938 ∷ 939 ∷ 940 ∷ 941 ∷ 942 ∷ 943 ∷ 944 ∷ 945 ∷ 946 ∷ 947 ∷ [];
      }
  -- word 1 is 15, 26 and 2 to the 64th minus 1: refused with 12 and the place. With 4 and with 25 the same words are a good log
  pub recover-count-fifteen : recover_leaves (six_counted 15) ≡ record { told = refused 12 0; entries = 0; image = six_counted 15; trace = before }
  pub recover-count-twenty-six : recover_leaves (six_counted 26) ≡ record { told = refused 12 0; entries = 0; image = six_counted 26; trace = before }
  pub recover-count-top : recover_leaves (six_counted 18446744073709551615)
      ≡ record { told = refused 12 0; entries = 0; image = six_counted 18446744073709551615; trace = before }
  pub recover-count-four : recover_told (recover_reply (six_counted 4) 48).answer ≡ replayed 3
  pub recover-count-twenty-five : recover_told (recover_reply (six_counted 25) 48).answer ≡ replayed 3
  -- N 1, at place 1: index 3 is the last one and index 4 is refused; so are equal indexes and falling ones
  pub recover-last-index : recover_leaves (one_at 18 0 3)
      ≡ record {
        told = replayed 3;
        entries = 5;
        image = one_at_home;
        trace =
            4 ∷ 601 ∷ 7 ∷ 602 ∷  -- words 0 and 3 of record 0
            18446744073709551615 ∷ 0 ∷  -- a fence
            30 ∷ 0 ∷  -- the persist number
            18446744073709551615 ∷ 0 ∷  -- a fence
            910 ∷ 911 ∷ 912 ∷ 913 ∷ 914 ∷ 915 ∷
            916 ∷ 917 ∷ 918 ∷ 919 ∷ 920 ∷ 921 ∷ 922 ∷ 923 ∷ 924 ∷ 925 ∷ 926 ∷ 927 ∷ 928 ∷ 929 ∷ 930 ∷ 931 ∷
            932 ∷ 933 ∷ 934 ∷ 935 ∷ 936 ∷ 937 ∷ 938 ∷ 939 ∷ 940 ∷ 941 ∷ 942 ∷ 943 ∷ 944 ∷ 945 ∷ 946 ∷ 947 ∷ [];
      }
  pub recover-index-four : recover_leaves (one_at 18 0 4) ≡ record { told = refused 12 1; entries = 0; image = one_at 18 0 4; trace = before }
  pub recover-equal-indexes : recover_leaves (one_at 18 2 2) ≡ record { told = refused 12 1; entries = 0; image = one_at 18 2 2; trace = before }
  pub recover-falling-indexes : recover_leaves (one_at 18 3 0) ≡ record { told = refused 12 1; entries = 0; image = one_at 18 3 0; trace = before }
  -- with one pair the falling index is past the log and not looked at
  pub recover-past-pairs : recover_leaves (one_at 17 3 0)
      ≡ record {
        told = replayed 3;
        entries = 4;
        image = one_past_home;
        trace =
            7 ∷ 601 ∷  -- word 3 of record 0
            18446744073709551615 ∷ 0 ∷  -- a fence
            30 ∷ 0 ∷  -- the persist number
            18446744073709551615 ∷ 0 ∷  -- a fence
            908 ∷ 909 ∷ 910 ∷ 911 ∷ 912 ∷ 913 ∷ 914 ∷ 915 ∷
            916 ∷ 917 ∷ 918 ∷ 919 ∷ 920 ∷ 921 ∷ 922 ∷ 923 ∷ 924 ∷ 925 ∷ 926 ∷ 927 ∷ 928 ∷ 929 ∷ 930 ∷ 931 ∷
            932 ∷ 933 ∷ 934 ∷ 935 ∷ 936 ∷ 937 ∷ 938 ∷ 939 ∷ 940 ∷ 941 ∷ 942 ∷ 943 ∷ 944 ∷ 945 ∷ 946 ∷ 947 ∷ [];
      }
