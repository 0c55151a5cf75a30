-- A reel reads back, an open reel without a speed marked: a session that writes a record keeps its words in the ledger as long as its
-- transaction lasts, and what is due of its read is those words, by demand 2.
use Prim.Native.Nat.{ℕ}
use mathlib.Core.Path.{◌≡◌, refl, sym, ap, ◌∙◌, subst}
use mathlib.Core.Bool.{Bool, true, false, cond, not, ◌&&◌, false≢true}
use mathlib.Core.Option.{some}
use mathlib.Core.List.{List, [], ◌∷◌, ◌++◌}
use native.Mathlib.Omega.{arith}
use lib.Dec.{T, leb, eqb, eqb→eq}
use borrow.Author.Tests.{eq-eqb}
use Rattle.std.specs.Prelude.{Ok as Done, Err}
use Rattle.layout.specs.Image.{records_of, sessions_of}
use Rattle.layout.specs.Refusal.{Answer, cause}
use Rattle.layout.specs.Told.{Told, ok, own, is, refused_by, value_of, is_refusal, code_told, words_told, Ok, Start, Empty, Sealed, End}
use Rattle.layout.proofs.Says.{says-itself, says-and}
use Rattle.desk.specs.Group.{member}
use Rattle.desk.specs.declared.reply.Reply.{Reply}
use Rattle.desk.specs.declared.state.Desk.{Desk as StoreDesk}
use Rattle.snapshot.specs.Read.{read_reply}
use Rattle.snapshot.specs.Told.{words_from, read_told, write_told}
use Rattle.snapshot.specs.Write.{write_says, write_reply}
use Rattle.snapshot.proofs.ToldLaws.{read-told}
use Rattle.snapshot.specs.declared.seeing.Source.{Source}
use Rattle.snapshot.specs.declared.seeing.Source.TheVariants.{Own, Copy, Home}
use Rattle.snapshot.specs.declared.seeing.Sight.{Sight}
use Rattle.reels.specs.Reel.{words_of, good_b, pack_fault, packable_b}
use Rattle.reels.specs.Read.{reel_read, read_reel_reply}
use Rattle.reels.specs.Unpack.{mark_of}
use Rattle.reels.specs.Write.{write_reel_reply}
use Rattle.reels.specs.declared.reel.Reel.{Reel}
use Rattle.reels.proofs.Good.{packable-known}
use Rattle.reels.proofs.Laws.{good-unpacks}
use Rattle.history.specs.Call.{Listening, Begin, Read, Finish, Find, Call, begin, read, write, abandon, finish, publish, group, settle, reclaim, listen}
use Rattle.history.specs.Desk.{find, Session, idle, active, sealed, published, Desk, upd, with_session}
use Rattle.history.specs.Due.{refuse, reads, wrote, due}
use Rattle.history.specs.Ledger.{Ledger, copying, sealed_with, ended_with, ticked, ended_all, note_listening, note_desk, note}
use Rattle.history.proofs.Copies.{upd_same, find-put-same, find-put-other}
use Rattle.claims.specs.Rules.{store_rules}
use Rattle.claims.specs.Run.{World, opened, reply, step, run}
use Rattle.claims.specs.ReelsBack.{besides_listening, besides, all_besides, own_reel, behind, Back, SameReel, ReelsBack, StoredBack}
use Rattle.claims.proofs.Demands.{demand2}
use Rattle.claims.proofs.SteadyCalls.{read-desk}
use Rattle.claims.proofs.Views.{run-append}

-- ---- the ledger

module _ (s r : ℕ) (ws : List ℕ) where
  -- where a session is active, it copies r with the words ws
  abbrev Holds : Session → Type 0
  Holds idle = Unit {0}
  Holds (active b q cs) = find r cs ≡ some ws
  Holds (sealed n q cs) = Unit {0}
  Holds (published e q cs) = Unit {0}

  abbrev HoldsIn : Desk → Type 0
  HoldsIn d = Holds (d.session s)

  -- a desk with another entry for session t
  entered : (t : ℕ) (x : Session) (d : Desk) → (t ≡ s → Holds x) → HoldsIn d → HoldsIn (with_session t x d)
  unfolding upd
  entered t x d new old = go (eqb s t) (eqb→eq s t)
    where
      go : (b : Bool) → (T b → s ≡ t) → Holds (cond b x (d.session s))
      go true e = new (sym (e tt))
      go false e = old

  either : (b : Bool) (d e : Desk) → HoldsIn d → HoldsIn e → HoldsIn (cond b d e)
  either true d e x y = x
  either false d e x y = y

  copying-holds : (t q : ℕ) (vs : List ℕ) (f : ℕ → ℕ) (x : Session) → (q ≡ r → ⊥) → Holds x → Holds (copying t q vs f x)
  copying-holds t q vs f idle n h = tt
  copying-holds t q vs f (active b p cs) n h = find-put-other q vs r cs n ∙ h
  copying-holds t q vs f (sealed m p cs) n h = tt
  copying-holds t q vs f (published e p cs) n h = tt

  sealed-holds : (n : ℕ) (x : Session) → Holds (sealed_with n x)
  sealed-holds n idle = tt
  sealed-holds n (active b q cs) = tt
  sealed-holds n (sealed m q cs) = tt
  sealed-holds n (published e q cs) = tt

  ended-holds : (n : ℕ) (x : Session) → Holds x → Holds (ended_with n x)
  ended-holds n idle h = tt
  ended-holds n (active b q cs) h = h
  ended-holds n (sealed m q cs) h = tt
  ended-holds n (published e q cs) h = tt

  -- with an end for those that pass a test
  passing : (p : ℕ → Bool) (n : ℕ) (d : Desk) → HoldsIn d → HoldsIn (ended_all p n (ticked d))
  passing p n d h = go (p s)
    where
      go : (b : Bool) → Holds (cond b (ended_with n (d.session s)) (d.session s))
      go true = ended-holds n (d.session s) h
      go false = h

  listening-holds : (c : Listening) (t : Told) (d : Desk) → besides_listening s c ≡ true → HoldsIn d → HoldsIn (note_listening c t d)
  listening-holds (Begin u) t d b h =
      either (is Start t) _ d (entered u _ d (λ e. absurd (false≢true (sym (ap not (eq-eqb u s e)) ∙ b))) h) h
  listening-holds (Read u q) t d b h = h
  listening-holds (Finish len u) t d b h = either (is Empty t) _ d (entered u idle d (λ e. tt) h) h
  listening-holds (Find u k) t d b h = h

  -- no call between ends it but by ending the transaction
  note-holds : (c : Call) (t : Told) (f : ℕ → ℕ) (d : Desk) → besides s r c ≡ true → HoldsIn d → HoldsIn (note_desk c t f d)
  note-holds (begin u) t f d b h = listening-holds (Begin u) t d b h
  note-holds (read u q) t f d b h = h
  note-holds (write u q vs) t f d b h =
      either (is Ok t) _ _
      (entered u _ d (λ e. rw e (copying-holds s q vs f (d.session s) (λ z. absurd (false≢true (sym (clash e z) ∙ b))) h)) h)
      (either (refused_by 7 t) _ d (entered u idle d (λ e. tt) h) h)
    where
      clash : u ≡ s → q ≡ r → not (eqb u s && eqb q r) ≡ false
      clash e z = rw (eq-eqb u s e, eq-eqb q r z) refl
  note-holds (abandon u) t f d b h = either (is Ok t) _ d (entered u idle d (λ e. tt) h) h
  note-holds (finish len u) t f d b h =
      either (is Sealed t) _ _ (entered u _ d (λ e. sealed-holds (value_of t) (d.session u)) h)
      (either (is Empty t) _ d (entered u idle d (λ e. tt) h) h)
  note-holds (publish len u) t f d b h =
      either (is End t) _ d (passing (λ v. eqb v u) (value_of t) d h) h
  note-holds (group len set) t f d b h = either (is End t) _ d (passing (λ v. member v set) (value_of t) d h) h
  note-holds (settle len u) t f d b h = either (is Ok t) _ d (entered u idle d (λ e. tt) h) h
  note-holds (reclaim len u) t f d b h = h
  note-holds (listen c) t f d b h = listening-holds c t d b h

  run_holds : (calls : List Call) (w : World) → all_besides s r calls ≡ true → HoldsIn w.ledger.desk → HoldsIn (run store_rules calls w).ledger.desk
  unfolding run step note all_besides
  run_holds [] w b h = h
  run_holds (c ∷ cs) w b h =
      let p = (says-and (says-itself (besides s r c)) (says-itself (all_besides s r cs))).yes b in
      run_holds cs (step store_rules w c) p.1
      (note-holds c (reply store_rules w c).told w.ledger.number w.ledger.desk p.0 h)

  -- ---- what is due

  module _ (L : Ledger) where
    -- the ledger behind a write that is taken
    abbrev noted : Ledger
    noted = note (write s r ws) ok L

    -- the words are held in it
    written-holds : HoldsIn noted.desk
    unfolding note
    written-holds = rw (upd_same s (copying s r ws L.number (L.desk.session s)) L.desk.session) (go (L.desk.session s))
      where
        go : (x : Session) → Holds (copying s r ws L.number x)
        go idle = tt
        go (active b q cs) = find-put-same r ws cs
        go (sealed n q cs) = tt
        go (published e q cs) = tt

    module _ (N M : ℕ) where
      -- and a read is due them
      written_read : (due N M L (write s r ws)).answer ≡ ok → (due N M noted (read s r)).answer ≡ own ws
      unfolding due note
      written_read o = rw (upd_same s (copying s r ws L.number (L.desk.session s)) L.desk.session) (go (leb M s) (leb N r) (L.desk.session s) o)
        where
          go : (over past : Bool) (x : Session)
              → (cond over (refuse 4) (cond past (refuse 5) (wrote M L.number L.desk s r x))).answer ≡ ok
              → (cond over (refuse 4) (cond past (refuse 5) (reads M noted.desk noted.history r (copying s r ws L.number x)))).answer ≡ own ws
          go true past x e = let w : ◌≡◌ {A = ℕ} 0 1 = cc in absurd (omega arith)
          go false true x e = let w : ◌≡◌ {A = ℕ} 0 1 = cc in absurd (omega arith)
          go false false idle e = let w : ◌≡◌ {A = ℕ} 0 1 = cc in absurd (omega arith)
          go false false (active b q cs) e = rw (find-put-same r ws cs) refl
          go false false (sealed n q cs) e = let w : ◌≡◌ {A = ℕ} 0 1 = cc in absurd (omega arith)
          go false false (published f q cs) e = let w : ◌≡◌ {A = ℕ} 0 1 = cc in absurd (omega arith)

      -- a read that is not refused is due the words that are held
      held-read : HoldsIn L.desk → is_refusal (due N M L (read s r)).answer ≡ false → (due N M L (read s r)).answer ≡ own ws
      unfolding due
      held-read h e = go (leb M s) (leb N r) (L.desk.session s) h e
        where
          go : (over past : Bool) (x : Session) → Holds x
              → is_refusal (cond over (refuse 4) (cond past (refuse 5) (reads M L.desk L.history r x))).answer ≡ false
              → (cond over (refuse 4) (cond past (refuse 5) (reads M L.desk L.history r x))).answer ≡ own ws
          go true past x h e = absurd (false≢true (sym e))
          go false true x h e = absurd (false≢true (sym e))
          go false false idle h e = absurd (false≢true (sym e))
          go false false (active b q cs) h e = rw h refl
          go false false (sealed n q cs) h e = absurd (false≢true (sym e))
          go false false (published f q cs) h e = absurd (false≢true (sym e))

-- ---- the library

-- a write that the library takes is of a reel that may be packed, and the store takes its words
written-packable : (img : List ℕ) (d : StoreDesk) (s r : ℕ) (reel : Reel) → (write_reel_reply img d s r reel).answer ≡ Done tt
    → (packable_b reel ≡ true) × ((write_reply img d s r (words_of reel)).answer ≡ Done tt)
unfolding write_reel_reply
written-packable img d s r reel e = go (packable_b reel) e
  where
    go : (b : Bool) → (cond b (write_reply img d s r (words_of reel)) (write_says d (Err (cause (pack_fault reel))))).answer ≡ Done tt
        → (b ≡ true) × ((write_reply img d s r (words_of reel)).answer ≡ Done tt)
    go true e = (refl, e)
    go false e = let w : ◌≡◌ {A = ℕ} 0 1 = cc in absurd (omega arith)

-- a read that tells the session's own words of a good reel finds the reel, with its mark or none
told-own : (x : Reply Sight) (reel : Reel) → good_b reel ≡ true → read_told x.answer ≡ own (words_of reel)
    → reel_read x ≡ own_reel (mark_of reel) x.desk
told-own x reel g e = let p = go x.answer e in rw (p, good-unpacks reel g) refl
  where
    by-source : (a : Source) (vs : List ℕ) → words_from a vs ≡ own (words_of reel) → (a ≡ Own) × (vs ≡ words_of reel)
    by-source Own vs e = (refl, ap words_told e)
    by-source Copy vs e = let w : ◌≡◌ {A = ℕ} 23 22 = ap code_told e in absurd (omega arith)
    by-source Home vs e = let w : ◌≡◌ {A = ℕ} 24 22 = ap code_told e in absurd (omega arith)

    go : (a : Answer Sight) → read_told a ≡ own (words_of reel) → a ≡ Done (record { source = Own; words = words_of reel })
    go (Err k) e = let w : ◌≡◌ {A = ℕ} 0 22 = ap code_told e in absurd (omega arith)
    go (Done y) e =
        let p = by-source y.source y.words e in
        let h : Done (record { source = y.source; words = y.words }) ≡ Done (record { source = Own; words = words_of reel }) = rw (p.0, p.1) refl in h

module _ (img : List ℕ) (len : ℕ) (o : (store_rules.opens img len).told ≡ ok) (earlier : List Call) (s r : ℕ) (reel : Reel) where
  abbrev w : World
  w = run store_rules earlier (opened store_rules img len)

  -- what a call tells behind the write and further calls is due
  tells-due : (calls : List Call) (c : Call)
      → (reply store_rules (behind w s r reel calls) c).told ≡ (due (records_of img) (sessions_of img) (behind w s r reel calls).ledger c).answer
  tells-due calls c = rw (run-append earlier (write s r (words_of reel) ∷ calls) (opened store_rules img len)) at (demand2 img len o (earlier ++ (write s r (words_of reel) ∷ calls)) c)

  module _ (e : (write_reply w.image w.desk s r (words_of reel)).answer ≡ Done tt) (good : good_b reel ≡ true) where
    -- the store tells ok of the write
    taken : (reply store_rules w (write s r (words_of reel))).told ≡ ok
    unfolding reply
    taken = ap write_told e

    -- where the read is due the reel's words, it finds the reel
    finds : (calls : List Call)
        → (due (records_of img) (sessions_of img) (behind w s r reel calls).ledger (read s r)).answer ≡ own (words_of reel) → Back w s r reel (mark_of reel) calls
    unfolding reply read_reel_reply
    finds calls y =
        let v = behind w s r reel calls in
        told-own (read_reply v.image v.desk s r) reel good (tells-due calls (read s r) ∙ y)
        ∙ ap (own_reel (mark_of reel)) (read-desk v.image v.desk s r)

    -- the ledger behind the write
    after_write : (step store_rules w (write s r (words_of reel))).ledger ≡ noted s r (words_of reel) w.ledger
    unfolding step
    after_write = ap (λ (t : Told). note (write s r (words_of reel)) t w.ledger) taken

    same-reel : SameReel w s r reel (mark_of reel)
    unfolding run reply
    same-reel =
        record {
          at_once = finds [] (rw after_write (written_read s r (words_of reel) w.ledger _ _ (sym (demand2 img len o earlier (write s r (words_of reel))) ∙ taken)));
          later = λ calls b n.
              let v = behind w s r reel calls in
              finds calls
              (held-read s r (words_of reel) v.ledger _ _
              (run_holds s r (words_of reel) calls (step store_rules w (write s r (words_of reel))) b
              (subst (λ (L : Ledger). HoldsIn s r (words_of reel) L.desk) (sym after_write) (written-holds s r (words_of reel) w.ledger)))
              (ap is_refusal (sym (tells-due calls (read s r)) ∙ read-told v.image v.desk s r) ∙ n));
        }

pub reels-back : ReelsBack
reels-back img len o earlier s r reel e =
    let p = written-packable (w img len o earlier s r reel).image (w img len o earlier s r reel).desk s r reel e in
    let k = packable-known reel p.0 in
    rw k.1 at (same-reel img len o earlier s r reel p.1 k.0)

pub stored_back : StoredBack
stored_back img len o earlier s r reel e f c z =
    rw (eq-eqb reel.carrier 1 c, eq-eqb reel.speed 0 z) at (same-reel img len o earlier s r reel e (eq-eqb _ 0 f))
