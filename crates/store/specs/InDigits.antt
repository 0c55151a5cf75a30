-- Whole images and whole traces in digits, as documents 01 and 02 have them: the order of a log's words, of the words that go home and of an
-- entry's two words, the places of the image's parts and the words of a fence stand here to be read.
use Rattle.std.specs.Prelude.{ℕ, ◌+◌, ◌^◌, ◌≡◌, List, [], ◌∷◌, ◌++◌, length, replicate}
use Rattle.layout.specs.Entries.{Entry, made, listed}
use Rattle.layout.specs.Lay.{lay_answer, laid_image}
use Rattle.layout.specs.Told.{Told, refused, refusal, ok, sealed_at, ended_at, held, cleared, clean, replayed, lay_told}
use Rattle.desk.specs.Desk.{zero_copy, idle_session}
use Rattle.desk.specs.Publish.{publish_reply, publish_entries}
use Rattle.desk.specs.Told.{publish_told}
use Rattle.desk.specs.declared.state.Phase.{Phase}
use Rattle.desk.specs.declared.state.Phase.TheVariants.{Active, Sealed, Published}
use Rattle.desk.specs.declared.state.RecordCopy.{RecordCopy}
use Rattle.desk.specs.declared.state.Session.{Session}
use Rattle.desk.specs.declared.state.Desk.{Desk}
use Rattle.snapshot.specs.Write.{write_reply}
use Rattle.commit.specs.Finish.{finish_reply, finish_entries}
use Rattle.commit.specs.Settle.{settle_reply, settle_entries}
use Rattle.commit.specs.Reclaim.{reclaim_reply, reclaim_entries}
use Rattle.commit.specs.Told.{finish_told, settle_told, reclaim_told}
use Rattle.recovery.specs.Open.{open_reply, open_entries}
use Rattle.recovery.specs.Recover.{recover_reply, recover_entries}
use Rattle.recovery.specs.Told.{open_told, recover_told}

-- ---- images with N 1 and M 1, 52 words: the header in words 0 to 3, record 0 in 4 to 7, slot 0 in 8 to 29, slot 1 in 30 to 51. In an empty
-- slot words 1 to 21 may hold anything, here 201 .. 221 and 301 .. 321

-- as laid
abbrev pub one_laid : List ℕ
one_laid =
    1 ∷ 1 ∷ 1 ∷ 0 ∷  -- header
    0 ∷ 0 ∷ 0 ∷ 0 ∷  -- record 0
    0 ∷ 0 ∷ 0 ∷ 0 ∷ 0 ∷ 0 ∷ 0 ∷ 0 ∷ 0 ∷ 0 ∷ 0 ∷ 0 ∷ 0 ∷ 0 ∷ 0 ∷ 0 ∷ 0 ∷ 0 ∷ 0 ∷ 0 ∷ 0 ∷ 0 ∷  -- slot 0
    0 ∷ 0 ∷ 0 ∷ 0 ∷ 0 ∷ 0 ∷ 0 ∷ 0 ∷ 0 ∷ 0 ∷ 0 ∷ 0 ∷ 0 ∷ 0 ∷ 0 ∷ 0 ∷ 0 ∷ 0 ∷ 0 ∷ 0 ∷ 0 ∷ 0 ∷ []  -- slot 1

-- as laid and opened
abbrev pub one_opened : List ℕ
one_opened =
    1 ∷ 1 ∷ 1 ∷ 1025 ∷  -- header
    0 ∷ 0 ∷ 0 ∷ 0 ∷  -- record 0
    0 ∷ 0 ∷ 0 ∷ 0 ∷ 0 ∷ 0 ∷ 0 ∷ 0 ∷ 0 ∷ 0 ∷ 0 ∷ 0 ∷ 0 ∷ 0 ∷ 0 ∷ 0 ∷ 0 ∷ 0 ∷ 0 ∷ 0 ∷ 0 ∷ 0 ∷  -- slot 0
    0 ∷ 0 ∷ 0 ∷ 0 ∷ 0 ∷ 0 ∷ 0 ∷ 0 ∷ 0 ∷ 0 ∷ 0 ∷ 0 ∷ 0 ∷ 0 ∷ 0 ∷ 0 ∷ 0 ∷ 0 ∷ 0 ∷ 0 ∷ 0 ∷ 0 ∷ []  -- slot 1

-- both slots empty
abbrev pub one_empty : List ℕ
one_empty =
    1 ∷ 1 ∷ 1 ∷ 1025 ∷  -- header
    101 ∷ 102 ∷ 103 ∷ 104 ∷  -- record 0
    0 ∷ 201 ∷ 202 ∷ 203 ∷ 204 ∷ 205 ∷ 206 ∷ 207 ∷ 208 ∷ 209 ∷ 210 ∷ 211 ∷ 212 ∷ 213 ∷ 214 ∷ 215 ∷ 216 ∷ 217 ∷ 218 ∷ 219 ∷ 220 ∷ 221 ∷  -- slot 0
    0 ∷ 301 ∷ 302 ∷ 303 ∷ 304 ∷ 305 ∷ 306 ∷ 307 ∷ 308 ∷ 309 ∷ 310 ∷ 311 ∷ 312 ∷ 313 ∷ 314 ∷ 315 ∷ 316 ∷ 317 ∷ 318 ∷ 319 ∷ 320 ∷ 321 ∷ []  -- slot 1

-- opened once more
abbrev pub one_again : List ℕ
one_again =
    1 ∷ 1 ∷ 1 ∷ 2050 ∷  -- header
    101 ∷ 102 ∷ 103 ∷ 104 ∷  -- record 0
    0 ∷ 201 ∷ 202 ∷ 203 ∷ 204 ∷ 205 ∷ 206 ∷ 207 ∷ 208 ∷ 209 ∷ 210 ∷ 211 ∷ 212 ∷ 213 ∷ 214 ∷ 215 ∷ 216 ∷ 217 ∷ 218 ∷ 219 ∷ 220 ∷ 221 ∷  -- slot 0
    0 ∷ 301 ∷ 302 ∷ 303 ∷ 304 ∷ 305 ∷ 306 ∷ 307 ∷ 308 ∷ 309 ∷ 310 ∷ 311 ∷ 312 ∷ 313 ∷ 314 ∷ 315 ∷ 316 ∷ 317 ∷ 318 ∷ 319 ∷ 320 ∷ 321 ∷ []  -- slot 1

-- a copy of record 0 finished into slot 0: persist number, count, record number, record words
abbrev pub one_sealed : List ℕ
one_sealed =
    1 ∷ 1 ∷ 1 ∷ 1025 ∷  -- header
    101 ∷ 102 ∷ 103 ∷ 104 ∷  -- record 0
    7 ∷ 1 ∷ 0 ∷ 501 ∷ 502 ∷ 503 ∷ 504 ∷ 207 ∷ 208 ∷ 209 ∷ 210 ∷ 211 ∷ 212 ∷ 213 ∷ 214 ∷ 215 ∷ 216 ∷ 217 ∷ 218 ∷ 219 ∷ 220 ∷ 221 ∷  -- slot 0
    0 ∷ 301 ∷ 302 ∷ 303 ∷ 304 ∷ 305 ∷ 306 ∷ 307 ∷ 308 ∷ 309 ∷ 310 ∷ 311 ∷ 312 ∷ 313 ∷ 314 ∷ 315 ∷ 316 ∷ 317 ∷ 318 ∷ 319 ∷ 320 ∷ 321 ∷ []  -- slot 1

-- published with a raise of word 3
abbrev pub one_raised : List ℕ
one_raised =
    1 ∷ 1 ∷ 1 ∷ 2050 ∷  -- header
    101 ∷ 102 ∷ 103 ∷ 104 ∷  -- record 0
    7 ∷ 1 ∷ 0 ∷ 501 ∷ 502 ∷ 503 ∷ 504 ∷ 207 ∷ 208 ∷ 209 ∷ 210 ∷ 211 ∷ 212 ∷ 213 ∷ 214 ∷ 215 ∷ 216 ∷ 217 ∷ 218 ∷ 219 ∷ 220 ∷ 221 ∷  -- slot 0
    0 ∷ 301 ∷ 302 ∷ 303 ∷ 304 ∷ 305 ∷ 306 ∷ 307 ∷ 308 ∷ 309 ∷ 310 ∷ 311 ∷ 312 ∷ 313 ∷ 314 ∷ 315 ∷ 316 ∷ 317 ∷ 318 ∷ 319 ∷ 320 ∷ 321 ∷ []  -- slot 1

-- settled: the copy is at home, the slot stays occupied
abbrev pub one_settled : List ℕ
one_settled =
    1 ∷ 1 ∷ 1 ∷ 1025 ∷  -- header
    501 ∷ 502 ∷ 503 ∷ 504 ∷  -- record 0
    7 ∷ 1 ∷ 0 ∷ 501 ∷ 502 ∷ 503 ∷ 504 ∷ 207 ∷ 208 ∷ 209 ∷ 210 ∷ 211 ∷ 212 ∷ 213 ∷ 214 ∷ 215 ∷ 216 ∷ 217 ∷ 218 ∷ 219 ∷ 220 ∷ 221 ∷  -- slot 0
    0 ∷ 301 ∷ 302 ∷ 303 ∷ 304 ∷ 305 ∷ 306 ∷ 307 ∷ 308 ∷ 309 ∷ 310 ∷ 311 ∷ 312 ∷ 313 ∷ 314 ∷ 315 ∷ 316 ∷ 317 ∷ 318 ∷ 319 ∷ 320 ∷ 321 ∷ []  -- slot 1

-- reclaimed: of the slot only the persist number goes
abbrev pub one_cleared : List ℕ
one_cleared =
    1 ∷ 1 ∷ 1 ∷ 1025 ∷  -- header
    501 ∷ 502 ∷ 503 ∷ 504 ∷  -- record 0
    0 ∷ 1 ∷ 0 ∷ 501 ∷ 502 ∷ 503 ∷ 504 ∷ 207 ∷ 208 ∷ 209 ∷ 210 ∷ 211 ∷ 212 ∷ 213 ∷ 214 ∷ 215 ∷ 216 ∷ 217 ∷ 218 ∷ 219 ∷ 220 ∷ 221 ∷  -- slot 0
    0 ∷ 301 ∷ 302 ∷ 303 ∷ 304 ∷ 305 ∷ 306 ∷ 307 ∷ 308 ∷ 309 ∷ 310 ∷ 311 ∷ 312 ∷ 313 ∷ 314 ∷ 315 ∷ 316 ∷ 317 ∷ 318 ∷ 319 ∷ 320 ∷ 321 ∷ []  -- slot 1

-- another copy finished while slot 0 was occupied: into slot 1
abbrev pub one_second : List ℕ
one_second =
    1 ∷ 1 ∷ 1 ∷ 1025 ∷  -- header
    501 ∷ 502 ∷ 503 ∷ 504 ∷  -- record 0
    7 ∷ 1 ∷ 0 ∷ 501 ∷ 502 ∷ 503 ∷ 504 ∷ 207 ∷ 208 ∷ 209 ∷ 210 ∷ 211 ∷ 212 ∷ 213 ∷ 214 ∷ 215 ∷ 216 ∷ 217 ∷ 218 ∷ 219 ∷ 220 ∷ 221 ∷  -- slot 0
    8 ∷ 1 ∷ 0 ∷ 521 ∷ 522 ∷ 523 ∷ 524 ∷ 307 ∷ 308 ∷ 309 ∷ 310 ∷ 311 ∷ 312 ∷ 313 ∷ 314 ∷ 315 ∷ 316 ∷ 317 ∷ 318 ∷ 319 ∷ 320 ∷ 321 ∷ []  -- slot 1

-- an occupied slot 0 with record 1, which is N
abbrev pub one_at_n : List ℕ
one_at_n =
    1 ∷ 1 ∷ 1 ∷ 1025 ∷  -- header
    101 ∷ 102 ∷ 103 ∷ 104 ∷  -- record 0
    3 ∷ 1 ∷ 1 ∷ 511 ∷ 512 ∷ 513 ∷ 514 ∷ 207 ∷ 208 ∷ 209 ∷ 210 ∷ 211 ∷ 212 ∷ 213 ∷ 214 ∷ 215 ∷ 216 ∷ 217 ∷ 218 ∷ 219 ∷ 220 ∷ 221 ∷  -- slot 0
    0 ∷ 301 ∷ 302 ∷ 303 ∷ 304 ∷ 305 ∷ 306 ∷ 307 ∷ 308 ∷ 309 ∷ 310 ∷ 311 ∷ 312 ∷ 313 ∷ 314 ∷ 315 ∷ 316 ∷ 317 ∷ 318 ∷ 319 ∷ 320 ∷ 321 ∷ []  -- slot 1

-- both slots empty, and a word too many: 53
abbrev pub one_long : List ℕ
one_long =
    1 ∷ 1 ∷ 1 ∷ 1025 ∷  -- header
    101 ∷ 102 ∷ 103 ∷ 104 ∷  -- record 0
    0 ∷ 201 ∷ 202 ∷ 203 ∷ 204 ∷ 205 ∷ 206 ∷ 207 ∷ 208 ∷ 209 ∷ 210 ∷ 211 ∷ 212 ∷ 213 ∷ 214 ∷ 215 ∷ 216 ∷ 217 ∷ 218 ∷ 219 ∷ 220 ∷ 221 ∷  -- slot 0
    0 ∷ 301 ∷ 302 ∷ 303 ∷ 304 ∷ 305 ∷ 306 ∷ 307 ∷ 308 ∷ 309 ∷ 310 ∷ 311 ∷ 312 ∷ 313 ∷ 314 ∷ 315 ∷ 316 ∷ 317 ∷ 318 ∷ 319 ∷ 320 ∷ 321 ∷  -- slot 1
    322 ∷ []  -- one more

-- ---- images with N 2 and M 1, 56 words: record 0 in 4 to 7, record 1 in 8 to 11, slot 0 in 12 to 33, slot 1 in 34 to 55

-- as laid
abbrev pub two_laid : List ℕ
two_laid =
    1 ∷ 2 ∷ 1 ∷ 0 ∷  -- header
    0 ∷ 0 ∷ 0 ∷ 0 ∷  -- record 0
    0 ∷ 0 ∷ 0 ∷ 0 ∷  -- record 1
    0 ∷ 0 ∷ 0 ∷ 0 ∷ 0 ∷ 0 ∷ 0 ∷ 0 ∷ 0 ∷ 0 ∷ 0 ∷ 0 ∷ 0 ∷ 0 ∷ 0 ∷ 0 ∷ 0 ∷ 0 ∷ 0 ∷ 0 ∷ 0 ∷ 0 ∷  -- slot 0
    0 ∷ 0 ∷ 0 ∷ 0 ∷ 0 ∷ 0 ∷ 0 ∷ 0 ∷ 0 ∷ 0 ∷ 0 ∷ 0 ∷ 0 ∷ 0 ∷ 0 ∷ 0 ∷ 0 ∷ 0 ∷ 0 ∷ 0 ∷ 0 ∷ 0 ∷ []  -- slot 1

-- both slots empty
abbrev pub two_empty : List ℕ
two_empty =
    1 ∷ 2 ∷ 1 ∷ 1025 ∷  -- header
    101 ∷ 102 ∷ 103 ∷ 104 ∷  -- record 0
    111 ∷ 112 ∷ 113 ∷ 114 ∷  -- record 1
    0 ∷ 201 ∷ 202 ∷ 203 ∷ 204 ∷ 205 ∷ 206 ∷ 207 ∷ 208 ∷ 209 ∷ 210 ∷ 211 ∷ 212 ∷ 213 ∷ 214 ∷ 215 ∷ 216 ∷ 217 ∷ 218 ∷ 219 ∷ 220 ∷ 221 ∷  -- slot 0
    0 ∷ 301 ∷ 302 ∷ 303 ∷ 304 ∷ 305 ∷ 306 ∷ 307 ∷ 308 ∷ 309 ∷ 310 ∷ 311 ∷ 312 ∷ 313 ∷ 314 ∷ 315 ∷ 316 ∷ 317 ∷ 318 ∷ 319 ∷ 320 ∷ 321 ∷ []  -- slot 1

-- copies of record 1 and then of record 0 finished into slot 0
abbrev pub two_sealed : List ℕ
two_sealed =
    1 ∷ 2 ∷ 1 ∷ 1025 ∷  -- header
    101 ∷ 102 ∷ 103 ∷ 104 ∷  -- record 0
    111 ∷ 112 ∷ 113 ∷ 114 ∷  -- record 1
    7 ∷ 2 ∷ 1 ∷ 511 ∷ 512 ∷ 513 ∷ 514 ∷ 0 ∷ 501 ∷ 502 ∷ 503 ∷ 504 ∷ 212 ∷ 213 ∷ 214 ∷ 215 ∷ 216 ∷ 217 ∷ 218 ∷ 219 ∷ 220 ∷ 221 ∷  -- slot 0
    0 ∷ 301 ∷ 302 ∷ 303 ∷ 304 ∷ 305 ∷ 306 ∷ 307 ∷ 308 ∷ 309 ∷ 310 ∷ 311 ∷ 312 ∷ 313 ∷ 314 ∷ 315 ∷ 316 ∷ 317 ∷ 318 ∷ 319 ∷ 320 ∷ 321 ∷ []  -- slot 1

-- settled
abbrev pub two_settled : List ℕ
two_settled =
    1 ∷ 2 ∷ 1 ∷ 1025 ∷  -- header
    501 ∷ 502 ∷ 503 ∷ 504 ∷  -- record 0
    511 ∷ 512 ∷ 513 ∷ 514 ∷  -- record 1
    7 ∷ 2 ∷ 1 ∷ 511 ∷ 512 ∷ 513 ∷ 514 ∷ 0 ∷ 501 ∷ 502 ∷ 503 ∷ 504 ∷ 212 ∷ 213 ∷ 214 ∷ 215 ∷ 216 ∷ 217 ∷ 218 ∷ 219 ∷ 220 ∷ 221 ∷  -- slot 0
    0 ∷ 301 ∷ 302 ∷ 303 ∷ 304 ∷ 305 ∷ 306 ∷ 307 ∷ 308 ∷ 309 ∷ 310 ∷ 311 ∷ 312 ∷ 313 ∷ 314 ∷ 315 ∷ 316 ∷ 317 ∷ 318 ∷ 319 ∷ 320 ∷ 321 ∷ []  -- slot 1

-- two logs: number 5 at place 0 with record 1, number 4 at place 1 with records 1 and 0
abbrev pub two_logs : List ℕ
two_logs =
    1 ∷ 2 ∷ 1 ∷ 1025 ∷  -- header
    101 ∷ 102 ∷ 103 ∷ 104 ∷  -- record 0
    111 ∷ 112 ∷ 113 ∷ 114 ∷  -- record 1
    5 ∷ 1 ∷ 1 ∷ 511 ∷ 512 ∷ 513 ∷ 514 ∷ 207 ∷ 208 ∷ 209 ∷ 210 ∷ 211 ∷ 212 ∷ 213 ∷ 214 ∷ 215 ∷ 216 ∷ 217 ∷ 218 ∷ 219 ∷ 220 ∷ 221 ∷  -- slot 0
    4 ∷ 2 ∷ 1 ∷ 611 ∷ 612 ∷ 613 ∷ 614 ∷ 0 ∷ 601 ∷ 602 ∷ 603 ∷ 604 ∷ 312 ∷ 313 ∷ 314 ∷ 315 ∷ 316 ∷ 317 ∷ 318 ∷ 319 ∷ 320 ∷ 321 ∷ []  -- slot 1

-- number 4 is replayed, and its slot emptied
abbrev pub two_first : List ℕ
two_first =
    1 ∷ 2 ∷ 1 ∷ 1025 ∷  -- header
    601 ∷ 602 ∷ 603 ∷ 604 ∷  -- record 0
    611 ∷ 612 ∷ 613 ∷ 614 ∷  -- record 1
    5 ∷ 1 ∷ 1 ∷ 511 ∷ 512 ∷ 513 ∷ 514 ∷ 207 ∷ 208 ∷ 209 ∷ 210 ∷ 211 ∷ 212 ∷ 213 ∷ 214 ∷ 215 ∷ 216 ∷ 217 ∷ 218 ∷ 219 ∷ 220 ∷ 221 ∷  -- slot 0
    0 ∷ 2 ∷ 1 ∷ 611 ∷ 612 ∷ 613 ∷ 614 ∷ 0 ∷ 601 ∷ 602 ∷ 603 ∷ 604 ∷ 312 ∷ 313 ∷ 314 ∷ 315 ∷ 316 ∷ 317 ∷ 318 ∷ 319 ∷ 320 ∷ 321 ∷ []  -- slot 1

-- then number 5, over what number 4 left
abbrev pub two_clean : List ℕ
two_clean =
    1 ∷ 2 ∷ 1 ∷ 1025 ∷  -- header
    601 ∷ 602 ∷ 603 ∷ 604 ∷  -- record 0
    511 ∷ 512 ∷ 513 ∷ 514 ∷  -- record 1
    0 ∷ 1 ∷ 1 ∷ 511 ∷ 512 ∷ 513 ∷ 514 ∷ 207 ∷ 208 ∷ 209 ∷ 210 ∷ 211 ∷ 212 ∷ 213 ∷ 214 ∷ 215 ∷ 216 ∷ 217 ∷ 218 ∷ 219 ∷ 220 ∷ 221 ∷  -- slot 0
    0 ∷ 2 ∷ 1 ∷ 611 ∷ 612 ∷ 613 ∷ 614 ∷ 0 ∷ 601 ∷ 602 ∷ 603 ∷ 604 ∷ 312 ∷ 313 ∷ 314 ∷ 315 ∷ 316 ∷ 317 ∷ 318 ∷ 319 ∷ 320 ∷ 321 ∷ []  -- slot 1

-- two logs of one number, with record 1 in common
abbrev pub two_tied : List ℕ
two_tied =
    1 ∷ 2 ∷ 1 ∷ 1025 ∷  -- header
    101 ∷ 102 ∷ 103 ∷ 104 ∷  -- record 0
    111 ∷ 112 ∷ 113 ∷ 114 ∷  -- record 1
    4 ∷ 1 ∷ 1 ∷ 511 ∷ 512 ∷ 513 ∷ 514 ∷ 207 ∷ 208 ∷ 209 ∷ 210 ∷ 211 ∷ 212 ∷ 213 ∷ 214 ∷ 215 ∷ 216 ∷ 217 ∷ 218 ∷ 219 ∷ 220 ∷ 221 ∷  -- slot 0
    4 ∷ 2 ∷ 1 ∷ 611 ∷ 612 ∷ 613 ∷ 614 ∷ 0 ∷ 601 ∷ 602 ∷ 603 ∷ 604 ∷ 312 ∷ 313 ∷ 314 ∷ 315 ∷ 316 ∷ 317 ∷ 318 ∷ 319 ∷ 320 ∷ 321 ∷ []  -- slot 1

-- two logs of one number, with record 1 in common: at place 0 of the one and at place 1 of the other
abbrev pub two_across : List ℕ
two_across =
    1 ∷ 2 ∷ 1 ∷ 1025 ∷  -- header
    101 ∷ 102 ∷ 103 ∷ 104 ∷  -- record 0
    111 ∷ 112 ∷ 113 ∷ 114 ∷  -- record 1
    4 ∷ 1 ∷ 1 ∷ 511 ∷ 512 ∷ 513 ∷ 514 ∷ 207 ∷ 208 ∷ 209 ∷ 210 ∷ 211 ∷ 212 ∷ 213 ∷ 214 ∷ 215 ∷ 216 ∷ 217 ∷ 218 ∷ 219 ∷ 220 ∷ 221 ∷  -- slot 0
    4 ∷ 2 ∷ 0 ∷ 601 ∷ 602 ∷ 603 ∷ 604 ∷ 1 ∷ 611 ∷ 612 ∷ 613 ∷ 614 ∷ 312 ∷ 313 ∷ 314 ∷ 315 ∷ 316 ∷ 317 ∷ 318 ∷ 319 ∷ 320 ∷ 321 ∷ []  -- slot 1

-- two logs of one number, with no record in common
abbrev pub two_even : List ℕ
two_even =
    1 ∷ 2 ∷ 1 ∷ 1025 ∷  -- header
    101 ∷ 102 ∷ 103 ∷ 104 ∷  -- record 0
    111 ∷ 112 ∷ 113 ∷ 114 ∷  -- record 1
    4 ∷ 1 ∷ 1 ∷ 511 ∷ 512 ∷ 513 ∷ 514 ∷ 207 ∷ 208 ∷ 209 ∷ 210 ∷ 211 ∷ 212 ∷ 213 ∷ 214 ∷ 215 ∷ 216 ∷ 217 ∷ 218 ∷ 219 ∷ 220 ∷ 221 ∷  -- slot 0
    4 ∷ 1 ∷ 0 ∷ 601 ∷ 602 ∷ 603 ∷ 604 ∷ 307 ∷ 308 ∷ 309 ∷ 310 ∷ 311 ∷ 312 ∷ 313 ∷ 314 ∷ 315 ∷ 316 ∷ 317 ∷ 318 ∷ 319 ∷ 320 ∷ 321 ∷ []  -- slot 1

-- the one at the lower place is replayed
abbrev pub two_even_first : List ℕ
two_even_first =
    1 ∷ 2 ∷ 1 ∷ 1025 ∷  -- header
    101 ∷ 102 ∷ 103 ∷ 104 ∷  -- record 0
    511 ∷ 512 ∷ 513 ∷ 514 ∷  -- record 1
    0 ∷ 1 ∷ 1 ∷ 511 ∷ 512 ∷ 513 ∷ 514 ∷ 207 ∷ 208 ∷ 209 ∷ 210 ∷ 211 ∷ 212 ∷ 213 ∷ 214 ∷ 215 ∷ 216 ∷ 217 ∷ 218 ∷ 219 ∷ 220 ∷ 221 ∷  -- slot 0
    4 ∷ 1 ∷ 0 ∷ 601 ∷ 602 ∷ 603 ∷ 604 ∷ 307 ∷ 308 ∷ 309 ∷ 310 ∷ 311 ∷ 312 ∷ 313 ∷ 314 ∷ 315 ∷ 316 ∷ 317 ∷ 318 ∷ 319 ∷ 320 ∷ 321 ∷ []  -- slot 1

-- ---- images with N 4 and M 1, 64 words: record 0 in 4 to 7, record 1 in 8 to 11, record 2 in 12 to 15, record 3 in 16 to 19, slot 0 in
-- 20 to 41, slot 1 in 42 to 63

-- both slots empty
abbrev pub four_empty : List ℕ
four_empty =
    1 ∷ 4 ∷ 1 ∷ 1025 ∷  -- header
    101 ∷ 102 ∷ 103 ∷ 104 ∷  -- record 0
    111 ∷ 112 ∷ 113 ∷ 114 ∷  -- record 1
    121 ∷ 122 ∷ 123 ∷ 124 ∷  -- record 2
    131 ∷ 132 ∷ 133 ∷ 134 ∷  -- record 3
    0 ∷ 201 ∷ 202 ∷ 203 ∷ 204 ∷ 205 ∷ 206 ∷ 207 ∷ 208 ∷ 209 ∷ 210 ∷ 211 ∷ 212 ∷ 213 ∷ 214 ∷ 215 ∷ 216 ∷ 217 ∷ 218 ∷ 219 ∷ 220 ∷ 221 ∷  -- slot 0
    0 ∷ 301 ∷ 302 ∷ 303 ∷ 304 ∷ 305 ∷ 306 ∷ 307 ∷ 308 ∷ 309 ∷ 310 ∷ 311 ∷ 312 ∷ 313 ∷ 314 ∷ 315 ∷ 316 ∷ 317 ∷ 318 ∷ 319 ∷ 320 ∷ 321 ∷ []  -- slot 1

-- copies of records 3, 0, 2 and 1, in this order, finished into slot 0, all of whose words they fill
abbrev pub four_sealed : List ℕ
four_sealed =
    1 ∷ 4 ∷ 1 ∷ 1025 ∷  -- header
    101 ∷ 102 ∷ 103 ∷ 104 ∷  -- record 0
    111 ∷ 112 ∷ 113 ∷ 114 ∷  -- record 1
    121 ∷ 122 ∷ 123 ∷ 124 ∷  -- record 2
    131 ∷ 132 ∷ 133 ∷ 134 ∷  -- record 3
    7 ∷ 4 ∷ 3 ∷ 531 ∷ 532 ∷ 533 ∷ 534 ∷ 0 ∷ 501 ∷ 502 ∷ 503 ∷ 504 ∷ 2 ∷ 521 ∷ 522 ∷ 523 ∷ 524 ∷ 1 ∷ 511 ∷ 512 ∷ 513 ∷ 514 ∷  -- slot 0
    0 ∷ 301 ∷ 302 ∷ 303 ∷ 304 ∷ 305 ∷ 306 ∷ 307 ∷ 308 ∷ 309 ∷ 310 ∷ 311 ∷ 312 ∷ 313 ∷ 314 ∷ 315 ∷ 316 ∷ 317 ∷ 318 ∷ 319 ∷ 320 ∷ 321 ∷ []  -- slot 1

-- settled
abbrev pub four_settled : List ℕ
four_settled =
    1 ∷ 4 ∷ 1 ∷ 1025 ∷  -- header
    501 ∷ 502 ∷ 503 ∷ 504 ∷  -- record 0
    511 ∷ 512 ∷ 513 ∷ 514 ∷  -- record 1
    521 ∷ 522 ∷ 523 ∷ 524 ∷  -- record 2
    531 ∷ 532 ∷ 533 ∷ 534 ∷  -- record 3
    7 ∷ 4 ∷ 3 ∷ 531 ∷ 532 ∷ 533 ∷ 534 ∷ 0 ∷ 501 ∷ 502 ∷ 503 ∷ 504 ∷ 2 ∷ 521 ∷ 522 ∷ 523 ∷ 524 ∷ 1 ∷ 511 ∷ 512 ∷ 513 ∷ 514 ∷  -- slot 0
    0 ∷ 301 ∷ 302 ∷ 303 ∷ 304 ∷ 305 ∷ 306 ∷ 307 ∷ 308 ∷ 309 ∷ 310 ∷ 311 ∷ 312 ∷ 313 ∷ 314 ∷ 315 ∷ 316 ∷ 317 ∷ 318 ∷ 319 ∷ 320 ∷ 321 ∷ []  -- slot 1

-- replayed: the copies are at home and the slot is emptied
abbrev pub four_replayed : List ℕ
four_replayed =
    1 ∷ 4 ∷ 1 ∷ 1025 ∷  -- header
    501 ∷ 502 ∷ 503 ∷ 504 ∷  -- record 0
    511 ∷ 512 ∷ 513 ∷ 514 ∷  -- record 1
    521 ∷ 522 ∷ 523 ∷ 524 ∷  -- record 2
    531 ∷ 532 ∷ 533 ∷ 534 ∷  -- record 3
    0 ∷ 4 ∷ 3 ∷ 531 ∷ 532 ∷ 533 ∷ 534 ∷ 0 ∷ 501 ∷ 502 ∷ 503 ∷ 504 ∷ 2 ∷ 521 ∷ 522 ∷ 523 ∷ 524 ∷ 1 ∷ 511 ∷ 512 ∷ 513 ∷ 514 ∷  -- slot 0
    0 ∷ 301 ∷ 302 ∷ 303 ∷ 304 ∷ 305 ∷ 306 ∷ 307 ∷ 308 ∷ 309 ∷ 310 ∷ 311 ∷ 312 ∷ 313 ∷ 314 ∷ 315 ∷ 316 ∷ 317 ∷ 318 ∷ 319 ∷ 320 ∷ 321 ∷ []  -- slot 1

-- ---- an image with N 5 and M 1, 68 words: record 4 in 20 to 23, slot 0 in 24 to 45, slot 1 in 46 to 67

-- slot 0 has count 5 and four good records, all different. The word after them, slot 1's first, is below N and differs too: the count alone
-- is at fault
abbrev pub five_over : List ℕ
five_over =
    1 ∷ 5 ∷ 1 ∷ 1025 ∷  -- header
    101 ∷ 102 ∷ 103 ∷ 104 ∷  -- record 0
    111 ∷ 112 ∷ 113 ∷ 114 ∷  -- record 1
    121 ∷ 122 ∷ 123 ∷ 124 ∷  -- record 2
    131 ∷ 132 ∷ 133 ∷ 134 ∷  -- record 3
    141 ∷ 142 ∷ 143 ∷ 144 ∷  -- record 4
    1 ∷ 5 ∷ 4 ∷ 541 ∷ 542 ∷ 543 ∷ 544 ∷ 3 ∷ 531 ∷ 532 ∷ 533 ∷ 534 ∷ 1 ∷ 511 ∷ 512 ∷ 513 ∷ 514 ∷ 2 ∷ 521 ∷ 522 ∷ 523 ∷ 524 ∷  -- slot 0
    0 ∷ 301 ∷ 302 ∷ 303 ∷ 304 ∷ 305 ∷ 306 ∷ 307 ∷ 308 ∷ 309 ∷ 310 ∷ 311 ∷ 312 ∷ 313 ∷ 314 ∷ 315 ∷ 316 ∷ 317 ∷ 318 ∷ 319 ∷ 320 ∷ 321 ∷ []  -- slot 1

-- ---- images with N 1 and M 2, 96 words: session 0's slots are at places 0 and 1, in words 8 to 29 and 30 to 51, session 1's at places 2
-- and 3, in words 52 to 73 and 74 to 95

-- number 7 in session 0's slot 0, number 4 in session 1's slot 0
abbrev pub pair_logs : List ℕ
pair_logs =
    1 ∷ 1 ∷ 2 ∷ 1025 ∷  -- header
    101 ∷ 102 ∷ 103 ∷ 104 ∷  -- record 0
    7 ∷ 1 ∷ 0 ∷ 501 ∷ 502 ∷ 503 ∷ 504 ∷ 207 ∷ 208 ∷ 209 ∷ 210 ∷ 211 ∷ 212 ∷ 213 ∷ 214 ∷ 215 ∷ 216 ∷ 217 ∷ 218 ∷ 219 ∷ 220 ∷ 221 ∷  -- place 0
    0 ∷ 301 ∷ 302 ∷ 303 ∷ 304 ∷ 305 ∷ 306 ∷ 307 ∷ 308 ∷ 309 ∷ 310 ∷ 311 ∷ 312 ∷ 313 ∷ 314 ∷ 315 ∷ 316 ∷ 317 ∷ 318 ∷ 319 ∷ 320 ∷ 321 ∷  -- place 1
    4 ∷ 1 ∷ 0 ∷ 601 ∷ 602 ∷ 603 ∷ 604 ∷ 407 ∷ 408 ∷ 409 ∷ 410 ∷ 411 ∷ 412 ∷ 413 ∷ 414 ∷ 415 ∷ 416 ∷ 417 ∷ 418 ∷ 419 ∷ 420 ∷ 421 ∷  -- place 2
    0 ∷ 701 ∷ 702 ∷ 703 ∷ 704 ∷ 705 ∷ 706 ∷ 707 ∷ 708 ∷ 709 ∷ 710 ∷ 711 ∷ 712 ∷ 713 ∷ 714 ∷ 715 ∷ 716 ∷ 717 ∷ 718 ∷ 719 ∷ 720 ∷ 721 ∷ []  -- place 3

-- number 4 is reclaimed
abbrev pub pair_cleared : List ℕ
pair_cleared =
    1 ∷ 1 ∷ 2 ∷ 1025 ∷  -- header
    101 ∷ 102 ∷ 103 ∷ 104 ∷  -- record 0
    7 ∷ 1 ∷ 0 ∷ 501 ∷ 502 ∷ 503 ∷ 504 ∷ 207 ∷ 208 ∷ 209 ∷ 210 ∷ 211 ∷ 212 ∷ 213 ∷ 214 ∷ 215 ∷ 216 ∷ 217 ∷ 218 ∷ 219 ∷ 220 ∷ 221 ∷  -- place 0
    0 ∷ 301 ∷ 302 ∷ 303 ∷ 304 ∷ 305 ∷ 306 ∷ 307 ∷ 308 ∷ 309 ∷ 310 ∷ 311 ∷ 312 ∷ 313 ∷ 314 ∷ 315 ∷ 316 ∷ 317 ∷ 318 ∷ 319 ∷ 320 ∷ 321 ∷  -- place 1
    0 ∷ 1 ∷ 0 ∷ 601 ∷ 602 ∷ 603 ∷ 604 ∷ 407 ∷ 408 ∷ 409 ∷ 410 ∷ 411 ∷ 412 ∷ 413 ∷ 414 ∷ 415 ∷ 416 ∷ 417 ∷ 418 ∷ 419 ∷ 420 ∷ 421 ∷  -- place 2
    0 ∷ 701 ∷ 702 ∷ 703 ∷ 704 ∷ 705 ∷ 706 ∷ 707 ∷ 708 ∷ 709 ∷ 710 ∷ 711 ∷ 712 ∷ 713 ∷ 714 ∷ 715 ∷ 716 ∷ 717 ∷ 718 ∷ 719 ∷ 720 ∷ 721 ∷ []  -- place 3

-- ---- the trace before each call, 48 words
abbrev pub before : List ℕ
before =
    900 ∷ 901 ∷ 902 ∷ 903 ∷ 904 ∷ 905 ∷ 906 ∷ 907 ∷ 908 ∷ 909 ∷ 910 ∷ 911 ∷ 912 ∷ 913 ∷ 914 ∷ 915 ∷
    916 ∷ 917 ∷ 918 ∷ 919 ∷ 920 ∷ 921 ∷ 922 ∷ 923 ∷ 924 ∷ 925 ∷ 926 ∷ 927 ∷ 928 ∷ 929 ∷ 930 ∷ 931 ∷
    932 ∷ 933 ∷ 934 ∷ 935 ∷ 936 ∷ 937 ∷ 938 ∷ 939 ∷ 940 ∷ 941 ∷ 942 ∷ 943 ∷ 944 ∷ 945 ∷ 946 ∷ 947 ∷ []

-- ---- desks

-- a desk with these marks of records 0 and 1 (0 none, 1 session 0) and this entry of session 0; its list is zero, session 0 active or not
abbrev pub desk_of : ℕ → ℕ → ℕ → List ℕ → Session → Desk
desk_of clock n m marks e =
    record { clock = clock; n = n; m = m; holders = marks ++ replicate 254 0; sessions = e ∷ replicate 15 idle_session; order = replicate 16 0 }

-- a session with one copy, of record 0, and its slot; and with two, of record 1 and then of record 0
abbrev pub one_copy : Phase → ℕ → List ℕ → Session
one_copy p slot ws =
    record { phase = p; count = 1; slot = slot; copies = record { rec = 0; words = ws } ∷ zero_copy ∷ zero_copy ∷ zero_copy ∷ [] }

abbrev pub two_copies : Phase → Session
two_copies p =
    record {
      phase = p;
      count = 2;
      slot = 0;
      copies =
          record { rec = 1; words = 511 ∷ 512 ∷ 513 ∷ 514 ∷ [] } ∷
          record { rec = 0; words = 501 ∷ 502 ∷ 503 ∷ 504 ∷ [] } ∷
          zero_copy ∷ zero_copy ∷ [];
    }

-- four copies, of records 3, 0, 2 and 1
abbrev pub four_copies : List RecordCopy
four_copies =
    record { rec = 3; words = 531 ∷ 532 ∷ 533 ∷ 534 ∷ [] } ∷
    record { rec = 0; words = 501 ∷ 502 ∷ 503 ∷ 504 ∷ [] } ∷
    record { rec = 2; words = 521 ∷ 522 ∷ 523 ∷ 524 ∷ [] } ∷
    record { rec = 1; words = 511 ∷ 512 ∷ 513 ∷ 514 ∷ [] } ∷ []

-- N 1: session 0 has a copy of record 0 in this phase; it is active and has none; it is idle
abbrev pub one_desk : ℕ → Phase → Desk
one_desk clock p = desk_of clock 1 1 (1 ∷ 0 ∷ []) (one_copy p 0 (501 ∷ 502 ∷ 503 ∷ 504 ∷ []))

abbrev pub one_begun : Desk
one_begun = desk_of 8 1 1 (0 ∷ 0 ∷ []) (record { phase = Active 8; count = 0; slot = 0; copies = replicate 4 zero_copy })

abbrev pub one_idle : ℕ → Desk
one_idle clock = desk_of clock 1 1 (0 ∷ 0 ∷ []) idle_session

-- the second copy, for slot 1
abbrev pub second_desk : Phase → Desk
second_desk p = desk_of 8 1 1 (1 ∷ 0 ∷ []) (one_copy p 1 (521 ∷ 522 ∷ 523 ∷ 524 ∷ []))

-- N 2
abbrev pub two_desk : ℕ → Phase → Desk
two_desk clock p = desk_of clock 2 1 (1 ∷ 1 ∷ []) (two_copies p)

abbrev pub two_idle : ℕ → Desk
two_idle clock = desk_of clock 2 1 (0 ∷ 0 ∷ []) idle_session

-- N 4, with copies of records 3, 0, 2 and 1
abbrev pub four_desk : ℕ → Phase → Desk
four_desk clock p =
    record {
      clock = clock;
      n = 4;
      m = 1;
      holders = (1 ∷ 1 ∷ 1 ∷ 1 ∷ []) ++ replicate 252 0;
      sessions = record { phase = p; count = 4; slot = 0; copies = four_copies } ∷ replicate 15 idle_session;
      order = replicate 16 0;
    }

-- N 1, M 2, both sessions idle
abbrev pub pair_idle : Desk
pair_idle = desk_of 8 1 2 (0 ∷ 0 ∷ []) idle_session

-- ---- what a call leaves: what it tells, the number of entries, the image and the trace; the contracts have image and trace by `made` and
-- `listed`

pub record Left : Type 0 where
  pub told : Told
  pub entries : ℕ
  pub image : List ℕ
  pub trace : List ℕ

abbrev pub leaves : Told → ℕ → List Entry → List ℕ → Left
leaves t n es img = record { told = t; entries = n; image = made es img; trace = listed es before }

-- session 0 finishes, publishes, settles
abbrev pub finish_leaves : List ℕ → Desk → Left
finish_leaves img d =
    let r = finish_reply img d 48 0 in leaves (finish_told r.answer) r.entries (finish_entries img d 48 0) img

abbrev pub publish_leaves : List ℕ → Desk → Left
publish_leaves img d =
    let r = publish_reply img d 48 0 in leaves (publish_told r.answer) r.entries (publish_entries img d 48 0) img

abbrev pub settle_leaves : List ℕ → Desk → Left
settle_leaves img d =
    let r = settle_reply img d 48 0 in leaves (settle_told r.answer) r.entries (settle_entries img d 48 0) img

-- session s reclaims
abbrev pub reclaim_leaves : List ℕ → Desk → ℕ → Left
reclaim_leaves img d s =
    let r = reclaim_reply img d 48 s in leaves (reclaim_told r.answer) r.entries (reclaim_entries img d 48 s) img

abbrev pub open_leaves : List ℕ → Left
open_leaves img = let r = open_reply img 48 in leaves (open_told r.answer) r.entries (open_entries img 48) img

abbrev pub recover_leaves : List ℕ → Left
recover_leaves img = let r = recover_reply img 48 in leaves (recover_told r.answer) r.entries (recover_entries img 48) img

pub record InDigits : Type 0 where
  -- a fence's index is 2 to the 64th minus 1; the trace has the 48 words that a call asks for
  pub fence-index : 18446744073709551615 + 1 ≡ 2 ^ 64
  pub trace-words : length before ≡ 48
  -- lay, over words that were 9
  pub lay-one : laid_image 1 1 (replicate 52 9) ≡ one_laid
  pub lay-two : laid_image 2 1 (replicate 56 9) ≡ two_laid
  pub lay-told : lay_told (lay_answer 1 1 (replicate 52 9)) ≡ ok
  -- open of what is laid, and of an image with word 3 at 1025: the clock is word 3 + 1, and word 3 becomes that + 1024
  pub open-laid : open_leaves one_laid
      ≡ record {
        told = ok;
        entries = 2;
        image = one_opened;
        trace =
            3 ∷ 1025 ∷  -- word 3
            18446744073709551615 ∷ 0 ∷  -- a fence
            904 ∷ 905 ∷ 906 ∷ 907 ∷ 908 ∷ 909 ∷ 910 ∷ 911 ∷ 912 ∷ 913 ∷ 914 ∷ 915 ∷
            916 ∷ 917 ∷ 918 ∷ 919 ∷ 920 ∷ 921 ∷ 922 ∷ 923 ∷ 924 ∷ 925 ∷ 926 ∷ 927 ∷ 928 ∷ 929 ∷ 930 ∷ 931 ∷
            932 ∷ 933 ∷ 934 ∷ 935 ∷ 936 ∷ 937 ∷ 938 ∷ 939 ∷ 940 ∷ 941 ∷ 942 ∷ 943 ∷ 944 ∷ 945 ∷ 946 ∷ 947 ∷ [];
      }
  pub open-laid-desk : (open_reply one_laid 48).desk ≡ one_idle 1
  pub open-again : open_leaves one_empty
      ≡ record {
        told = ok;
        entries = 2;
        image = one_again;
        trace =
            3 ∷ 2050 ∷  -- word 3
            18446744073709551615 ∷ 0 ∷  -- a fence
            904 ∷ 905 ∷ 906 ∷ 907 ∷ 908 ∷ 909 ∷ 910 ∷ 911 ∷ 912 ∷ 913 ∷ 914 ∷ 915 ∷
            916 ∷ 917 ∷ 918 ∷ 919 ∷ 920 ∷ 921 ∷ 922 ∷ 923 ∷ 924 ∷ 925 ∷ 926 ∷ 927 ∷ 928 ∷ 929 ∷ 930 ∷ 931 ∷
            932 ∷ 933 ∷ 934 ∷ 935 ∷ 936 ∷ 937 ∷ 938 ∷ 939 ∷ 940 ∷ 941 ∷ 942 ∷ 943 ∷ 944 ∷ 945 ∷ 946 ∷ 947 ∷ [];
      }
  pub open-again-desk : (open_reply one_empty 48).desk ≡ one_idle 1026
  -- a word too many
  pub open-too-long : open_leaves one_long ≡ record { told = refusal 1; entries = 0; image = one_long; trace = before }
  -- finish of one copy at clock 7, into slot 0, whose first word is 8
  pub finish-one : finish_leaves one_empty (one_desk 7 (Active 5))
      ≡ record {
        told = sealed_at 7;
        entries = 9;
        image = one_sealed;
        trace =
            9 ∷ 1 ∷  -- the count
            10 ∷ 0 ∷  -- the record number
            11 ∷ 501 ∷ 12 ∷ 502 ∷ 13 ∷ 503 ∷ 14 ∷ 504 ∷  -- the record words
            18446744073709551615 ∷ 0 ∷  -- a fence
            8 ∷ 7 ∷  -- the persist number
            18446744073709551615 ∷ 0 ∷  -- a fence
            918 ∷ 919 ∷ 920 ∷ 921 ∷ 922 ∷ 923 ∷ 924 ∷ 925 ∷ 926 ∷ 927 ∷ 928 ∷ 929 ∷ 930 ∷ 931 ∷
            932 ∷ 933 ∷ 934 ∷ 935 ∷ 936 ∷ 937 ∷ 938 ∷ 939 ∷ 940 ∷ 941 ∷ 942 ∷ 943 ∷ 944 ∷ 945 ∷ 946 ∷ 947 ∷ [];
      }
  pub finish-one-desk : (finish_reply one_empty (one_desk 7 (Active 5)) 48 0).desk ≡ one_desk 7 (Sealed 7)
  -- finish of copies of record 1 and then of record 0, into slot 0, whose first word is 12
  pub finish-two : finish_leaves two_empty (two_desk 7 (Active 5))
      ≡ record {
        told = sealed_at 7;
        entries = 14;
        image = two_sealed;
        trace =
            13 ∷ 2 ∷  -- the count
            14 ∷ 1 ∷  -- the first copy: the record number
            15 ∷ 511 ∷ 16 ∷ 512 ∷ 17 ∷ 513 ∷ 18 ∷ 514 ∷  -- the record words
            19 ∷ 0 ∷  -- the second copy: the record number
            20 ∷ 501 ∷ 21 ∷ 502 ∷ 22 ∷ 503 ∷ 23 ∷ 504 ∷  -- the record words
            18446744073709551615 ∷ 0 ∷  -- a fence
            12 ∷ 7 ∷  -- the persist number
            18446744073709551615 ∷ 0 ∷  -- a fence
            928 ∷ 929 ∷ 930 ∷ 931 ∷
            932 ∷ 933 ∷ 934 ∷ 935 ∷ 936 ∷ 937 ∷ 938 ∷ 939 ∷ 940 ∷ 941 ∷ 942 ∷ 943 ∷ 944 ∷ 945 ∷ 946 ∷ 947 ∷ [];
      }
  pub finish-two-desk : (finish_reply two_empty (two_desk 7 (Active 5)) 48 0).desk ≡ two_desk 7 (Sealed 7)
  -- finish of copies of records 3, 0, 2 and 1 into slot 0, whose first word is 20: the entries fill the trace
  pub finish-four : finish_leaves four_empty (four_desk 7 (Active 5))
      ≡ record {
        told = sealed_at 7;
        entries = 24;
        image = four_sealed;
        trace =
            21 ∷ 4 ∷  -- the count
            22 ∷ 3 ∷  -- the first copy: the record number
            23 ∷ 531 ∷ 24 ∷ 532 ∷ 25 ∷ 533 ∷ 26 ∷ 534 ∷  -- the record words
            27 ∷ 0 ∷  -- the second copy: the record number
            28 ∷ 501 ∷ 29 ∷ 502 ∷ 30 ∷ 503 ∷ 31 ∷ 504 ∷  -- the record words
            32 ∷ 2 ∷  -- the third copy: the record number
            33 ∷ 521 ∷ 34 ∷ 522 ∷ 35 ∷ 523 ∷ 36 ∷ 524 ∷  -- the record words
            37 ∷ 1 ∷  -- the fourth copy: the record number
            38 ∷ 511 ∷ 39 ∷ 512 ∷ 40 ∷ 513 ∷ 41 ∷ 514 ∷  -- the record words
            18446744073709551615 ∷ 0 ∷  -- a fence
            20 ∷ 7 ∷  -- the persist number
            18446744073709551615 ∷ 0 ∷ [];  -- a fence
      }
  -- a first write while slot 0 is occupied reserves slot 1, and finish goes there; its first word is 30
  pub write-second : (write_reply one_settled one_begun 0 0 (521 ∷ 522 ∷ 523 ∷ 524 ∷ [])).desk ≡ second_desk (Active 8)
  pub finish-second : finish_leaves one_settled (second_desk (Active 8))
      ≡ record {
        told = sealed_at 8;
        entries = 9;
        image = one_second;
        trace =
            31 ∷ 1 ∷  -- the count
            32 ∷ 0 ∷  -- the record number
            33 ∷ 521 ∷ 34 ∷ 522 ∷ 35 ∷ 523 ∷ 36 ∷ 524 ∷  -- the record words
            18446744073709551615 ∷ 0 ∷  -- a fence
            30 ∷ 8 ∷  -- the persist number
            18446744073709551615 ∷ 0 ∷  -- a fence
            918 ∷ 919 ∷ 920 ∷ 921 ∷ 922 ∷ 923 ∷ 924 ∷ 925 ∷ 926 ∷ 927 ∷ 928 ∷ 929 ∷ 930 ∷ 931 ∷
            932 ∷ 933 ∷ 934 ∷ 935 ∷ 936 ∷ 937 ∷ 938 ∷ 939 ∷ 940 ∷ 941 ∷ 942 ∷ 943 ∷ 944 ∷ 945 ∷ 946 ∷ 947 ∷ [];
      }
  pub finish-second-desk : (finish_reply one_settled (second_desk (Active 8)) 48 0).desk ≡ second_desk (Sealed 8)
  -- publish with word 3 at the clock: the end is above it, and word 3 is raised to that + 1024
  pub publish-raised : publish_leaves one_sealed (one_desk 1025 (Sealed 7))
      ≡ record {
        told = ended_at 1026;
        entries = 2;
        image = one_raised;
        trace =
            3 ∷ 2050 ∷  -- word 3
            18446744073709551615 ∷ 0 ∷  -- a fence
            904 ∷ 905 ∷ 906 ∷ 907 ∷ 908 ∷ 909 ∷ 910 ∷ 911 ∷ 912 ∷ 913 ∷ 914 ∷ 915 ∷
            916 ∷ 917 ∷ 918 ∷ 919 ∷ 920 ∷ 921 ∷ 922 ∷ 923 ∷ 924 ∷ 925 ∷ 926 ∷ 927 ∷ 928 ∷ 929 ∷ 930 ∷ 931 ∷
            932 ∷ 933 ∷ 934 ∷ 935 ∷ 936 ∷ 937 ∷ 938 ∷ 939 ∷ 940 ∷ 941 ∷ 942 ∷ 943 ∷ 944 ∷ 945 ∷ 946 ∷ 947 ∷ [];
      }
  pub publish-raised-desk : (publish_reply one_sealed (one_desk 1025 (Sealed 7)) 48 0).desk ≡ one_desk 1026 (Published 1026)
  -- publish with word 3 high enough stores nothing
  pub publish-under : publish_leaves one_sealed (one_desk 7 (Sealed 7))
      ≡ record { told = ended_at 8; entries = 0; image = one_sealed; trace = before }
  -- settle of one copy, of two, and of four
  pub settle-one : settle_leaves one_sealed (one_desk 8 (Published 8))
      ≡ record {
        told = ok;
        entries = 5;
        image = one_settled;
        trace =
            4 ∷ 501 ∷ 5 ∷ 502 ∷ 6 ∷ 503 ∷ 7 ∷ 504 ∷  -- record 0
            18446744073709551615 ∷ 0 ∷  -- a fence
            910 ∷ 911 ∷ 912 ∷ 913 ∷ 914 ∷ 915 ∷
            916 ∷ 917 ∷ 918 ∷ 919 ∷ 920 ∷ 921 ∷ 922 ∷ 923 ∷ 924 ∷ 925 ∷ 926 ∷ 927 ∷ 928 ∷ 929 ∷ 930 ∷ 931 ∷
            932 ∷ 933 ∷ 934 ∷ 935 ∷ 936 ∷ 937 ∷ 938 ∷ 939 ∷ 940 ∷ 941 ∷ 942 ∷ 943 ∷ 944 ∷ 945 ∷ 946 ∷ 947 ∷ [];
      }
  pub settle-one-desk : (settle_reply one_sealed (one_desk 8 (Published 8)) 48 0).desk ≡ one_idle 8
  pub settle-two : settle_leaves two_sealed (two_desk 8 (Published 8))
      ≡ record {
        told = ok;
        entries = 9;
        image = two_settled;
        trace =
            8 ∷ 511 ∷ 9 ∷ 512 ∷ 10 ∷ 513 ∷ 11 ∷ 514 ∷  -- record 1
            4 ∷ 501 ∷ 5 ∷ 502 ∷ 6 ∷ 503 ∷ 7 ∷ 504 ∷  -- record 0
            18446744073709551615 ∷ 0 ∷  -- a fence
            918 ∷ 919 ∷ 920 ∷ 921 ∷ 922 ∷ 923 ∷ 924 ∷ 925 ∷ 926 ∷ 927 ∷ 928 ∷ 929 ∷ 930 ∷ 931 ∷
            932 ∷ 933 ∷ 934 ∷ 935 ∷ 936 ∷ 937 ∷ 938 ∷ 939 ∷ 940 ∷ 941 ∷ 942 ∷ 943 ∷ 944 ∷ 945 ∷ 946 ∷ 947 ∷ [];
      }
  pub settle-two-desk : (settle_reply two_sealed (two_desk 8 (Published 8)) 48 0).desk ≡ two_idle 8
  pub settle-four : settle_leaves four_sealed (four_desk 8 (Published 8))
      ≡ record {
        told = ok;
        entries = 17;
        image = four_settled;
        trace =
            16 ∷ 531 ∷ 17 ∷ 532 ∷ 18 ∷ 533 ∷ 19 ∷ 534 ∷  -- record 3
            4 ∷ 501 ∷ 5 ∷ 502 ∷ 6 ∷ 503 ∷ 7 ∷ 504 ∷  -- record 0
            12 ∷ 521 ∷ 13 ∷ 522 ∷ 14 ∷ 523 ∷ 15 ∷ 524 ∷  -- record 2
            8 ∷ 511 ∷ 9 ∷ 512 ∷ 10 ∷ 513 ∷ 11 ∷ 514 ∷  -- record 1
            18446744073709551615 ∷ 0 ∷  -- a fence
            934 ∷ 935 ∷ 936 ∷ 937 ∷ 938 ∷ 939 ∷ 940 ∷ 941 ∷ 942 ∷ 943 ∷ 944 ∷ 945 ∷ 946 ∷ 947 ∷ [];
      }
  -- reclaim of the settled slot 0
  pub reclaim-one : reclaim_leaves one_settled (one_idle 8) 0
      ≡ record {
        told = cleared 7;
        entries = 2;
        image = one_cleared;
        trace =
            8 ∷ 0 ∷  -- the persist number
            18446744073709551615 ∷ 0 ∷  -- a fence
            904 ∷ 905 ∷ 906 ∷ 907 ∷ 908 ∷ 909 ∷ 910 ∷ 911 ∷ 912 ∷ 913 ∷ 914 ∷ 915 ∷
            916 ∷ 917 ∷ 918 ∷ 919 ∷ 920 ∷ 921 ∷ 922 ∷ 923 ∷ 924 ∷ 925 ∷ 926 ∷ 927 ∷ 928 ∷ 929 ∷ 930 ∷ 931 ∷
            932 ∷ 933 ∷ 934 ∷ 935 ∷ 936 ∷ 937 ∷ 938 ∷ 939 ∷ 940 ∷ 941 ∷ 942 ∷ 943 ∷ 944 ∷ 945 ∷ 946 ∷ 947 ∷ [];
      }
  pub reclaim-one-desk : (reclaim_reply one_settled (one_idle 8) 48 0).desk ≡ one_idle 8
  -- session 0's number 7 is held by session 1's number 4, and nothing changes; session 1's is cleared, at place 2, whose first word is 52
  pub reclaim-held : reclaim_leaves pair_logs pair_idle 0 ≡ record { told = held 4; entries = 0; image = pair_logs; trace = before }
  pub reclaim-pair : reclaim_leaves pair_logs pair_idle 1
      ≡ record {
        told = cleared 4;
        entries = 2;
        image = pair_cleared;
        trace =
            52 ∷ 0 ∷  -- the persist number
            18446744073709551615 ∷ 0 ∷  -- a fence
            904 ∷ 905 ∷ 906 ∷ 907 ∷ 908 ∷ 909 ∷ 910 ∷ 911 ∷ 912 ∷ 913 ∷ 914 ∷ 915 ∷
            916 ∷ 917 ∷ 918 ∷ 919 ∷ 920 ∷ 921 ∷ 922 ∷ 923 ∷ 924 ∷ 925 ∷ 926 ∷ 927 ∷ 928 ∷ 929 ∷ 930 ∷ 931 ∷
            932 ∷ 933 ∷ 934 ∷ 935 ∷ 936 ∷ 937 ∷ 938 ∷ 939 ∷ 940 ∷ 941 ∷ 942 ∷ 943 ∷ 944 ∷ 945 ∷ 946 ∷ 947 ∷ [];
      }
  -- recover takes number 4 first, though its place is the higher one; then number 5; then the image is clean and stays as it is
  pub recover-first : recover_leaves two_logs
      ≡ record {
        told = replayed 4;
        entries = 11;
        image = two_first;
        trace =
            8 ∷ 611 ∷ 9 ∷ 612 ∷ 10 ∷ 613 ∷ 11 ∷ 614 ∷  -- record 1
            4 ∷ 601 ∷ 5 ∷ 602 ∷ 6 ∷ 603 ∷ 7 ∷ 604 ∷  -- record 0
            18446744073709551615 ∷ 0 ∷  -- a fence
            34 ∷ 0 ∷  -- the persist number
            18446744073709551615 ∷ 0 ∷  -- a fence
            922 ∷ 923 ∷ 924 ∷ 925 ∷ 926 ∷ 927 ∷ 928 ∷ 929 ∷ 930 ∷ 931 ∷
            932 ∷ 933 ∷ 934 ∷ 935 ∷ 936 ∷ 937 ∷ 938 ∷ 939 ∷ 940 ∷ 941 ∷ 942 ∷ 943 ∷ 944 ∷ 945 ∷ 946 ∷ 947 ∷ [];
      }
  pub recover-next : recover_leaves two_first
      ≡ record {
        told = replayed 5;
        entries = 7;
        image = two_clean;
        trace =
            8 ∷ 511 ∷ 9 ∷ 512 ∷ 10 ∷ 513 ∷ 11 ∷ 514 ∷  -- record 1
            18446744073709551615 ∷ 0 ∷  -- a fence
            12 ∷ 0 ∷  -- the persist number
            18446744073709551615 ∷ 0 ∷  -- a fence
            914 ∷ 915 ∷
            916 ∷ 917 ∷ 918 ∷ 919 ∷ 920 ∷ 921 ∷ 922 ∷ 923 ∷ 924 ∷ 925 ∷ 926 ∷ 927 ∷ 928 ∷ 929 ∷ 930 ∷ 931 ∷
            932 ∷ 933 ∷ 934 ∷ 935 ∷ 936 ∷ 937 ∷ 938 ∷ 939 ∷ 940 ∷ 941 ∷ 942 ∷ 943 ∷ 944 ∷ 945 ∷ 946 ∷ 947 ∷ [];
      }
  pub recover-clean : recover_leaves two_clean ≡ record { told = clean; entries = 0; image = two_clean; trace = before }
  -- four copies go home in the order of their places, as in settle
  pub recover-four : recover_leaves four_sealed
      ≡ record {
        told = replayed 7;
        entries = 19;
        image = four_replayed;
        trace =
            16 ∷ 531 ∷ 17 ∷ 532 ∷ 18 ∷ 533 ∷ 19 ∷ 534 ∷  -- record 3
            4 ∷ 501 ∷ 5 ∷ 502 ∷ 6 ∷ 503 ∷ 7 ∷ 504 ∷  -- record 0
            12 ∷ 521 ∷ 13 ∷ 522 ∷ 14 ∷ 523 ∷ 15 ∷ 524 ∷  -- record 2
            8 ∷ 511 ∷ 9 ∷ 512 ∷ 10 ∷ 513 ∷ 11 ∷ 514 ∷  -- record 1
            18446744073709551615 ∷ 0 ∷  -- a fence
            20 ∷ 0 ∷  -- the persist number
            18446744073709551615 ∷ 0 ∷  -- a fence
            938 ∷ 939 ∷ 940 ∷ 941 ∷ 942 ∷ 943 ∷ 944 ∷ 945 ∷ 946 ∷ 947 ∷ [];
      }
  -- an occupied slot with record N, and one whose only fault is count 5: refused with 12 and the place
  pub recover-at-n : recover_leaves one_at_n ≡ record { told = refused 12 0; entries = 0; image = one_at_n; trace = before }
  pub recover-count-five : recover_leaves five_over ≡ record { told = refused 12 0; entries = 0; image = five_over; trace = before }
  -- equal numbers: refused with a record in common, wherever the logs have it; with none, the lower place comes first
  pub recover-tied : recover_leaves two_tied ≡ record { told = refusal 13; entries = 0; image = two_tied; trace = before }
  pub recover-tied-across : recover_leaves two_across ≡ record { told = refusal 13; entries = 0; image = two_across; trace = before }
  pub recover-even : recover_leaves two_even
      ≡ record {
        told = replayed 4;
        entries = 7;
        image = two_even_first;
        trace =
            8 ∷ 511 ∷ 9 ∷ 512 ∷ 10 ∷ 513 ∷ 11 ∷ 514 ∷  -- record 1
            18446744073709551615 ∷ 0 ∷  -- a fence
            12 ∷ 0 ∷  -- the persist number
            18446744073709551615 ∷ 0 ∷  -- a fence
            914 ∷ 915 ∷
            916 ∷ 917 ∷ 918 ∷ 919 ∷ 920 ∷ 921 ∷ 922 ∷ 923 ∷ 924 ∷ 925 ∷ 926 ∷ 927 ∷ 928 ∷ 929 ∷ 930 ∷ 931 ∷
            932 ∷ 933 ∷ 934 ∷ 935 ∷ 936 ∷ 937 ∷ 938 ∷ 939 ∷ 940 ∷ 941 ∷ 942 ∷ 943 ∷ 944 ∷ 945 ∷ 946 ∷ 947 ∷ [];
      }
