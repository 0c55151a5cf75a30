-- The laws of the reel library.
use Rattle.std.specs.Prelude.{ℕ, ◌+◌, ◌*◌, ◌≤◌, ◌<◌, ◌≡◌, ◌⊎◌, List, [], ◌∷◌, Option, Some, None, Ok, Err, IsOk}
use Rattle.std.proofs.Math.Option.{none, some}
use Rattle.layout.specs.Refusal.{Answer, cause}
use Rattle.layout.specs.declared.refusal.Refusal.{Refusal}
use Rattle.layout.specs.declared.refusal.Refusal.TheVariants.{WrongShelf}
use Rattle.layout.specs.Told.{Result, refused as store_refused, result}
use Rattle.desk.specs.declared.state.Desk.{Desk}
use Rattle.snapshot.specs.Read.{read_reply}
use Rattle.snapshot.specs.Write.{write_says, write_reply}
use Rattle.snapshot.specs.declared.seeing.Sight.{Sight}
use Rattle.reels.specs.Reel.{reel_of, words_of, reel_fault, pack_fault}
use Rattle.reels.specs.Told.{speed_to_find}
use Rattle.reels.specs.Pack.{pack_reply}
use Rattle.reels.specs.Unpack.{unpack_reply, words_said}
use Rattle.reels.specs.Read.{read_reel_reply, source_told}
use Rattle.reels.specs.Write.{write_reel_reply}
use Rattle.reels.specs.Length.{speed_at, metres_of, length_answer}
use Rattle.reels.specs.declared.reel.Reel.{Reel}
use Rattle.reels.specs.declared.unpacking.Contents.TheVariants.{Unused, Found, SpeedToFind}

-- a reel by its four numbers
abbrev pub reel_by : ℕ → ℕ → ℕ → ℕ → Reel
reel_by a b c d = record { shelf = a; carrier = b; speed = c; seconds = d }

-- the tape length of ten thousand seconds at a speed code
abbrev pub length_at : ℕ → Answer (Option ℕ)
length_at code = length_answer (1 ∷ 1 ∷ code ∷ 10000 ∷ [])

abbrev pub Shelved : ℕ → Type 0
Shelved shelf = (1 ≤ shelf) × (shelf ≤ 999999)

-- which codes a carrier takes: an open reel from `least` to 5, a cassette 0 and 1, a disc 0; there is no other carrier
abbrev pub Takes : ℕ → ℕ → ℕ → Type 0
Takes least carrier code = ((carrier ≡ 1) × (least ≤ code) × (code ≤ 5)) ⊎ (((carrier ≡ 2) × (code ≤ 1)) ⊎ ((carrier ≡ 3) × (code ≡ 0)))

-- which reels are refused, and by which number first, in plain words
pub record Faults (fault : Reel → ℕ) (least : ℕ) : Type 0 where
  pub shelf : (r : Reel) → (Shelved r.shelf → ⊥) → fault r ≡ 15
  pub speed : (r : Reel) → Shelved r.shelf → (Takes least r.carrier r.speed → ⊥) → fault r ≡ 16
  pub seconds : (r : Reel) → Shelved r.shelf → Takes least r.carrier r.speed → 359999 < r.seconds → fault r ≡ 17
  pub none : (r : Reel) → Shelved r.shelf → Takes least r.carrier r.speed → r.seconds ≤ 359999 → fault r ≡ 0

pub record ReelLaws : Type 0 where
  -- which word is which number
  pub reel-of : (a b c d : ℕ) → reel_of (a ∷ b ∷ c ∷ d ∷ []) ≡ reel_by a b c d
  pub words-of : (a b c d : ℕ) → words_of (reel_by a b c d) ≡ a ∷ b ∷ c ∷ d ∷ []
  -- on reading an open reel may have code 0; packed or written, it needs a speed
  pub read-faults : Faults reel_fault 0
  pub pack-faults : Faults pack_fault 1
  -- what is packed unpacks to itself, unmarked
  pub unpack-packed : (r : Reel) (ws : List ℕ) → pack_reply r ≡ Ok ws → unpack_reply ws ≡ Ok (Found r)
  -- words that can be packed unpack, unmarked, and pack to themselves
  pub pack-unpacked : (a b c d : ℕ) → let ws = a ∷ b ∷ c ∷ d ∷ [] in IsOk (pack_reply (reel_of ws))
      → (unpack_reply ws ≡ Ok (Found (reel_of ws))) × (pack_reply (reel_of ws) ≡ Ok ws)
  -- the marked words are exactly those that are good to read and cannot be packed
  pub marked : (a b c d : ℕ) (r : Reel) → unpack_reply (a ∷ b ∷ c ∷ d ∷ []) ≡ Ok (SpeedToFind r)
      → (r ≡ reel_by a b c d) × (reel_fault r ≡ 0) × (IsOk (pack_reply r) → ⊥)
  pub marks : (a b c d : ℕ) → reel_fault (reel_by a b c d) ≡ 0 → (IsOk (pack_reply (reel_by a b c d)) → ⊥)
      → unpack_reply (a ∷ b ∷ c ∷ d ∷ []) ≡ Ok (SpeedToFind (reel_by a b c d))
  -- what words unpack to: good ones to their reel, open reels with code 0 and no others marked; bad ones, unless all are 0, to their number
  pub speed-to-find : (a d : ℕ) → reel_fault (reel_by a 1 0 d) ≡ 0
      → (unpack_reply (a ∷ 1 ∷ 0 ∷ d ∷ []) ≡ Ok (SpeedToFind (reel_by a 1 0 d)))
      × (words_said (a ∷ 1 ∷ 0 ∷ d ∷ []) ≡ speed_to_find (reel_by a 1 0 d))
  pub good-read : (a b c d : ℕ) → reel_fault (reel_by a b c d) ≡ 0 → (b ≡ 1 → c ≡ 0 → ⊥)
      → unpack_reply (a ∷ b ∷ c ∷ d ∷ []) ≡ Ok (Found (reel_by a b c d))
  pub bad-read : (a b c d : ℕ) → (reel_fault (reel_by a b c d) ≡ 0 → ⊥) → (a ≡ 0 → b ≡ 0 → c ≡ 0 → d ≡ 0 → ⊥)
      → unpack_reply (a ∷ b ∷ c ∷ d ∷ []) ≡ Err (cause (reel_fault (reel_by a b c d)))
  -- an unused record is read as such, and is neither packed nor written
  pub unused-read : unpack_reply (0 ∷ 0 ∷ 0 ∷ 0 ∷ []) ≡ Ok Unused
  pub unused-packed : pack_reply (reel_by 0 0 0 0) ≡ Err WrongShelf
  pub unused-written : (img : List ℕ) (d : Desk) (s r : ℕ) → write_reel_reply img d s r (reel_by 0 0 0 0) ≡ write_says d (Err WrongShelf)
  -- a read that the store refuses is refused alike; any other gives what its words unpack to, own, copy and home as the store's
  pub read-refused : (img : List ℕ) (d : Desk) (s r : ℕ) (k : Refusal) → (read_reply img d s r).answer ≡ Err k
      → read_reel_reply img d s r ≡ record { answer = Err k; source = Err k; desk = (read_reply img d s r).desk }
  pub read_taken : (img : List ℕ) (d : Desk) (s r : ℕ) (x : Sight) → (read_reply img d s r).answer ≡ Ok x
      → read_reel_reply img d s r ≡ record { answer = unpack_reply x.words; source = Ok x.source; desk = (read_reply img d s r).desk }
  -- own, copy or home is told as it is, nothing of a refusal
  pub source-told : (x : Result) (n : ℕ) (ws : List ℕ) → source_told (result x n ws) ≡ some x
  pub source-refused : (k v : ℕ) → source_told (store_refused k v) ≡ none
  -- a reel that may not be packed gives no words, and written it leaves all as it was, whatever is stored and whatever the store would say;
  -- any other gives its words, and its write is the store's write of them
  pub refused-packed : (r : Reel) → (pack_fault r ≡ 0 → ⊥) → pack_reply r ≡ Err (cause (pack_fault r))
  pub taken-packed : (r : Reel) → pack_fault r ≡ 0 → pack_reply r ≡ Ok (words_of r)
  pub refused-written : (img : List ℕ) (d : Desk) (s r : ℕ) (reel : Reel) → (pack_fault reel ≡ 0 → ⊥)
      → write_reel_reply img d s r reel ≡ write_says d (Err (cause (pack_fault reel)))
  pub taken-written : (img : List ℕ) (d : Desk) (s r : ℕ) (reel : Reel) → pack_fault reel ≡ 0
      → write_reel_reply img d s r reel ≡ write_reply img d s r (words_of reel)
  -- one hour at code 3 is 685 m, whatever the shelf number in range
  pub hour : (shelf : ℕ) → Shelved shelf → length_answer (shelf ∷ 1 ∷ 3 ∷ 3600 ∷ []) ≡ Ok (Some 685)
  -- the speeds
  pub lengths : length_at 0 ∷ length_at 1 ∷ length_at 2 ∷ length_at 3 ∷ length_at 4 ∷ length_at 5 ∷ []
      ≡ Ok None ∷ Ok (Some 476) ∷ Ok (Some 953) ∷ Ok (Some 1905) ∷ Ok (Some 3810) ∷ Ok (Some 7620) ∷ []
  -- the length of good words is unknown with code 0, whatever the carrier, else seconds times speed over 10,000, rounded down; of four zeros it
  -- is unknown, of other bad words it is refused by their number
  pub unknown : (a b d : ℕ) → reel_fault (reel_by a b 0 d) ≡ 0 → length_answer (a ∷ b ∷ 0 ∷ d ∷ []) ≡ Ok None
  pub known : (a b c d : ℕ) → reel_fault (reel_by a b c d) ≡ 0 → (c ≡ 0 → ⊥) → length_answer (a ∷ b ∷ c ∷ d ∷ []) ≡ Ok (Some (metres_of d c))
  pub rounded : (seconds code : ℕ) → let m = metres_of seconds code in let x = seconds * speed_at code in (m * 10000 ≤ x) × (x < m * 10000 + 10000)
  pub unused-length : length_answer (0 ∷ 0 ∷ 0 ∷ 0 ∷ []) ≡ Ok None
  pub bad-length : (a b c d : ℕ) → (reel_fault (reel_by a b c d) ≡ 0 → ⊥) → (a ≡ 0 → b ≡ 0 → c ≡ 0 → d ≡ 0 → ⊥)
      → length_answer (a ∷ b ∷ c ∷ d ∷ []) ≡ Err (cause (reel_fault (reel_by a b c d)))
