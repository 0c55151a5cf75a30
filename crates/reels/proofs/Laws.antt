-- The laws of the reel library hold.
use Prim.Native.Nat.{ℕ}
use mathlib.Core.Path.{◌≡◌, refl, sym, ◌∙◌}
use mathlib.Core.Bool.{Bool, true, false, cond, false≢true}
use mathlib.Core.List.{List, [], ◌∷◌}
use native.Mathlib.Omega.{arith}
use borrow.Author.Tests.{eqb-true, eq-eqb, ne_eqb}
use Rattle.layout.specs.Checks.{first}
use Rattle.std.specs.Prelude.{Some, Ok, Err, IsOk}
use Rattle.layout.specs.Refusal.{cause}
use Rattle.layout.specs.declared.refusal.Refusal.{Refusal}
use Rattle.desk.specs.declared.reply.Reply.{Reply}
use Rattle.snapshot.specs.Read.{read_reply}
use Rattle.snapshot.specs.declared.seeing.Sight.{Sight}
use Rattle.reels.specs.Reel.{reel_of, words_of, reel_fault, good_b, speedless_b, pack_fault, packable_b}
use Rattle.reels.specs.Told.{speed_to_find}
use Rattle.reels.specs.Pack.{pack_reply}
use Rattle.reels.specs.Unpack.{mark_of, unpack_reply, words_said}
use Rattle.reels.specs.Read.{reel_read, read_reel_reply}
use Rattle.reels.specs.Write.{write_reel_reply}
use Rattle.reels.specs.Length.{good_length, length_of, length_answer}
use Rattle.reels.specs.Laws.{reel_by, Shelved, ReelLaws}
use Rattle.reels.specs.declared.reel.Reel.{Reel}
use Rattle.reels.specs.declared.unpacking.Contents.TheVariants.{Found, SpeedToFind}
use Rattle.reels.proofs.Faults as faults
use Rattle.reels.proofs.Good.{speedless-known, good-known, with-speed, not-unused, packable-known, good-packable}
use Rattle.reels.proofs.Unpacked.{packs, unpack-told, marked-known}

-- what is packed may be packed
packed-packable : (r : Reel) → IsOk (pack_reply r) → packable_b r ≡ true
unfolding pack_reply
packed-packable r e = go (packable_b r) e
  where
    go : (b : Bool) → IsOk (cond b (Ok (words_of r)) (Err (cause (pack_fault r)))) → b ≡ true
    go true e = refl
    go false e = absurd (false≢true e)

-- and packs to its words
packable-packs : (r : Reel) → packable_b r ≡ true → pack_reply r ≡ Ok (words_of r)
unfolding pack_reply
packable-packs r p = rw p refl

-- a good reel's words unpack to it, with its mark or none
pub good-unpacks : (r : Reel) → good_b r ≡ true → unpack_reply (words_of r) ≡ Ok (mark_of r)
unfolding unpack_reply
good-unpacks r g = rw (ne_eqb r.shelf 0 (λ z. omega (arith, (good-known r g).shelf.0)), g) refl

-- those of a reel that may be packed unpack to it unmarked
packable-unpacks : (r : Reel) → packable_b r ≡ true → unpack_reply (words_of r) ≡ Ok (Found r)
packable-unpacks r p = let k = packable-known r p in good-unpacks r k.0 ∙ rw k.1 refl

-- what is packed is the reel's words, which unpack to it
packed-unpacks : (r : Reel) (ws : List ℕ) → pack_reply r ≡ Ok ws → unpack_reply ws ≡ Ok (Found r)
packed-unpacks r ws e =
    let w = packs r (Ok ws) (sym e) in
    rw w.1 (packable-unpacks r w.0)

hour-long : (shelf : ℕ) → Shelved shelf → length_answer (shelf ∷ 1 ∷ 3 ∷ 3600 ∷ []) ≡ Ok (Some 685)
unfolding length_answer unpack_reply reel_fault first
hour-long shelf s = rw (ne_eqb shelf 0 (λ z. omega (arith, s.0)), faults.shelf-right shelf s) refl

-- a good reel that is not packed is marked
unpacks-marked : (r : Reel) → good_b r ≡ true → (IsOk (pack_reply r) → ⊥) → unpack_reply (words_of r) ≡ Ok (SpeedToFind r)
unpacks-marked r g n = go (speedless_b r) refl
  where
    go : (b : Bool) → speedless_b r ≡ b → unpack_reply (words_of r) ≡ Ok (SpeedToFind r)
    go true y = rw (good-unpacks r g, y) refl
    go false y = absurd (n (rw (packable-packs r (good-packable r g y)) refl))

-- bad words that are not all 0 give their number
bad-unpacks : (a b c d : ℕ) → (reel_fault (reel_by a b c d) ≡ 0 → ⊥) → (a ≡ 0 → b ≡ 0 → c ≡ 0 → d ≡ 0 → ⊥)
    → unpack_reply (a ∷ b ∷ c ∷ d ∷ []) ≡ Err (cause (reel_fault (reel_by a b c d)))
unfolding unpack_reply
bad-unpacks a b c d n used = rw (not-unused a b c d used, ne_eqb _ 0 n) refl

-- a good open reel without a speed tells so
open-said : (a d : ℕ) → good_b (reel_by a 1 0 d) ≡ true → words_said (a ∷ 1 ∷ 0 ∷ d ∷ []) ≡ speed_to_find (reel_by a 1 0 d)
open-said a d g = sym (unpack-told (a ∷ 1 ∷ 0 ∷ d ∷ [])) ∙ rw (good-unpacks (reel_by a 1 0 d) g) refl

-- the length of a good reel
good-length : (r : Reel) → good_b r ≡ true → length_answer (words_of r) ≡ Ok (good_length r)
unfolding length_answer
good-length r g = rw (good-unpacks r g) (go (speedless_b r) refl)
  where
    go : (b : Bool) → speedless_b r ≡ b → length_of (Ok (cond b (SpeedToFind r) (Found r))) ≡ Ok (good_length r)
    go true y = rw (speedless-known r y).1 refl
    go false y = refl

-- a read, by what the store reads
content-refused : (x : Reply Sight) (k : Refusal) → x.answer ≡ Err k → reel_read x ≡ record { answer = Err k; source = Err k; desk = x.desk }
content-refused x k e = rw e refl

content-taken : (x : Reply Sight) (y : Sight) → x.answer ≡ Ok y → reel_read x ≡ record { answer = unpack_reply y.words; source = Ok y.source; desk = x.desk }
content-taken x y e = rw e refl

pub reel-laws : ReelLaws
unfolding pack_reply unpack_reply read_reel_reply write_reel_reply length_answer reel_fault pack_fault first cause
reel-laws =
    record {
      reel-of = λ a b c d. refl;
      words-of = λ a b c d. refl;
      read-faults = faults.read-faults;
      pack-faults = faults.pack-faults;
      unpack-packed = packed-unpacks;
      pack-unpacked = λ a b c d e. let r = reel_of (a ∷ b ∷ c ∷ d ∷ []) in let p = packed-packable r e in (packable-unpacks r p, packable-packs r p);
      marked = λ a b c d r e.
          let k = marked-known (a ∷ b ∷ c ∷ d ∷ []) e in
          (k.0, rw k.0 (eqb-true (reel_fault (reel_by a b c d)) 0 k.1), rw k.0 (λ p. absurd (false≢true (sym (packable-known (reel_by a b c d) (packed-packable (reel_by a b c d) p)).1 ∙ k.2))));
      marks = λ a b c d e n. unpacks-marked (reel_by a b c d) (eq-eqb _ 0 e) n;
      speed-to-find = λ a d e. (good-unpacks (reel_by a 1 0 d) (eq-eqb _ 0 e), open-said a d (eq-eqb _ 0 e));
      good-read = λ a b c d e n. packable-unpacks (reel_by a b c d) (good-packable (reel_by a b c d) (eq-eqb _ 0 e) (with-speed (reel_by a b c d) n));
      bad-read = bad-unpacks;
      unused-read = refl;
      unused-packed = refl;
      unused-written = λ img d s r. refl;
      read-refused = λ img d s r k e. content-refused (read_reply img d s r) k e;
      read_taken = λ img d s r x e. content-taken (read_reply img d s r) x e;
      source-told = λ x n ws. refl;
      source-refused = λ k v. refl;
      refused-packed = λ r n. rw (ne_eqb (pack_fault r) 0 n) refl;
      taken-packed = λ r e. packable-packs r (eq-eqb _ 0 e);
      refused-written = λ img d s r reel n. rw (ne_eqb _ 0 n);
      taken-written = λ img d s r reel e. rw (eq-eqb _ 0 e);
      hour = hour-long;
      lengths = refl;
      unknown = λ a b d e. good-length (reel_by a b 0 d) (eq-eqb _ 0 e);
      known = λ a b c d e n. good-length (reel_by a b c d) (eq-eqb _ 0 e) ∙ rw (ne_eqb c 0 n) refl;
      rounded = λ t code. (omega arith, omega arith);
      unused-length = refl;
      bad-length = λ a b c d n used. rw (bad-unpacks a b c d n used) refl;
    }
