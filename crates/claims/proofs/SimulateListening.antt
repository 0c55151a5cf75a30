-- The listening room's calls give what is due, and a search looks at the records that are due.
use Prim.Native.Nat.{ℕ, zero, suc, ◌<◌}
use mathlib.Core.Path.{◌≡◌, refl, sym, ap, ◌∙◌}
use mathlib.Core.Bool.{Bool, true, false, cond}
use mathlib.Core.Option.{none, some}
use mathlib.Core.List.{List, [], ◌∷◌}
use native.Mathlib.Omega.{arith}
use native.Mathlib.Numerals.{add-one}
use lib.Dec.{leb, ltb, eqb}
use lib.ListN.{length, get_or}
use borrow.Author.Tests.{leb-false, eq-eqb, ne_eqb, lt-ltb, le-ltb, ltb-true}
use Rattle.std.specs.Prelude.{Option}
use Rattle.layout.specs.Image.{ceiling_of}
use Rattle.layout.specs.Below.{lowest}
use Rattle.layout.specs.Checks.{unless, first, answered, room_for}
use Rattle.layout.specs.Entries.{Entry}
use Rattle.layout.specs.Refusal.{cause}
use Rattle.layout.specs.Told.{Told, refusal, is_refusal, words_told}
use Rattle.layout.proofs.Says.{by-test}
use Rattle.desk.specs.Desk.{session_at, is_active, idle_session}
use Rattle.desk.specs.Entering.{image_fault}
use Rattle.desk.specs.Told.{begin_told}
use Rattle.desk.specs.Begin.{begin_reply}
use Rattle.desk.specs.declared.reply.Reply.{Reply}
use Rattle.desk.specs.declared.reply.StoringReply.{StoringReply}
use Rattle.desk.specs.declared.state.Phase.{Phase}
use Rattle.desk.specs.declared.state.Phase.TheVariants.{Idle, Active, Sealed, Published}
use Rattle.desk.specs.declared.state.Session.{Session}
use Rattle.desk.specs.declared.state.Desk.{Desk}
use Rattle.snapshot.specs.Read.{read_fault, read_refused, read_done}
use Rattle.snapshot.specs.Told.{read_told}
use Rattle.snapshot.specs.declared.seeing.Sight.{Sight}
use Rattle.snapshot.proofs.ToldLaws.{read-done}
use Rattle.commit.specs.Finish.{finish_refused, finish_done}
use Rattle.commit.specs.Told.{finish_told}
use Rattle.reels.specs.Reel.{shelf_b}
use Rattle.listening.specs.Listener.{no_copies, listener_fault}
use Rattle.listening.specs.Read.{listen_read_fault, listen_read_reply}
use Rattle.listening.specs.Finish.{listen_finish_reply}
use Rattle.listening.specs.Find.{find_fault, matches, first_match, find_refused, find_done, find_reply, looked_at, look_gives}
use Rattle.listening.specs.Told.{find_told}
use Rattle.history.specs.Call.{Begin, Read, Finish, Find, read, listen}
use Rattle.history.specs.Desk.{Copy as TxnCopy, active, first_of, holder}
use Rattle.history.specs.Due.{Due, refuse, shown_by, reads_other, hears, leaves, shelved_at, first_shelved, finds, searches, due_of}
use Rattle.history.specs.History.{History, view_at}
use Rattle.history.specs.Looks.{Looks, no_looks, looks_of}
use Rattle.history.proofs.Kept.{Holds}
use Rattle.claims.specs.Demands.{SameLooks}
use Rattle.claims.specs.Rules.{find_looks}
use Rattle.claims.proofs.Abstraction.{abs, copies_of, txn-of, abs-put}
use Rattle.claims.proofs.Causes.{tells-cause}
use Rattle.claims.proofs.Simulation.{Sim, Ready}
use Rattle.claims.proofs.Entering.{image-check, record-check, session-there, told}
use Rattle.claims.proofs.SimulateChecks.{Checked, Does, does-refuse, past-four, count-is}
use Rattle.claims.proofs.SimulateDesk.{begin-sim}
use Rattle.claims.proofs.SimulateRead.{reads-active}

-- ---- searches

-- tests that agree below n find the same
lowest-same : (p q : ℕ → Bool) (n : ℕ) → ((i : ℕ) → i < n → p i ≡ q i) → lowest n p ≡ lowest n q
unfolding lowest
lowest-same p q zero e = refl
lowest-same p q (suc n) e = rw (lowest-same p q n (λ i l. e i (omega arith)), e n (omega arith))

-- the ledger's search, by the store's
first-lowest : (p : ℕ → Bool) (n : ℕ) → first_of p n ≡ cond (ltb (lowest n p) n) (some (lowest n p)) none
unfolding first_of lowest
first-lowest p zero = refl
first-lowest p (suc n) =
    rw (first-lowest p n)
    (by-test (ltb (lowest n p) n)
    (λ e. rw (e, lt-ltb (lowest n p) (suc n) (omega (arith, ltb-true (lowest n p) n e))) refl)
    (λ e. by-test (p n)
    (λ b. rw (e, b, lt-ltb n (suc n) (omega arith)) refl)
    (λ b. rw (e, b, le-ltb (suc n) (suc n) (omega arith)) refl)))

-- ---- parts

-- a list of entries that is empty in any case
unlisted : (k : ℕ) → answered {A = List Entry} k (λ j. []) [] ≡ []
unfolding answered
unlisted zero = refl
unlisted (suc k) = refl

-- what is due of a record that is not the reader's own: word 0
pub other_word : (x : Bool) (ws : List ℕ) → get_or (words_told (reads_other x ws).answer) 0 0 ≡ get_or ws 0 0
other_word true ws = refl
other_word false ws = refl

abbrev none_in : List TxnCopy → Bool
none_in [] = true
none_in (c ∷ cs) = false

module _ (N M : ℕ) (img : List ℕ) (d : Desk) (f : ℕ → ℕ) (hist : History) (h : Ready N M img d) (s : ℕ) where
  -- the session's entry
  abbrev e : Session
  e = session_at d s

  -- check 18 asks of the entry's count what the ledger's rule asks of the copies
  bare : s < M → (cs : List TxnCopy) → copies_of e ≡ cs → eqb e.count 0 ≡ none_in cs
  bare l [] z = eq-eqb e.count 0 (sym (count-is N M img d s h l) ∙ ap length z)
  bare l (c ∷ cs) z = ne_eqb e.count 0 (λ n. omega (arith, count-is N M img d s h l, ap length z))

  pub listen-begin-sim : Sim (listen (Begin s)) f d (begin_told (begin_reply d s).answer) [] (begin_reply d s).desk (due_of N M f (ceiling_of img) (abs d) hist (listen (Begin s)))
  listen-begin-sim = let a = begin-sim N M img d s f hist h in record { answers = a.answers; stored = a.stored; desk = a.desk }

  -- ---- finish

  module _ (len : ℕ) where
    abbrev finish-call : Checked d f
    finish-call =
        record {
          call = listen (Finish len s);
          Gives = StoringReply (Option ℕ);
          tells = λ r. finish_told r.answer;
          left = λ r. r.desk;
          refused = finish_refused d;
          done = finish_done img d s;
          listed = [];
          refuses = tells-cause;
          keeps = λ k. refl;
          notes = λ k. refl;
        }

    finish-by : s < M → (p : Phase) (cs : List TxnCopy) → copies_of e ≡ cs
        → Does d f finish-call (first (unless (is_active p) 6) (unless (no_copies d s) 18)) (leaves (txn-of p e.slot cs))
    unfolding first answered
    finish-by l Idle cs z = does-refuse d f finish-call 5 (omega arith)
    finish-by l (Active b) [] z =
        rw (bare l [] z)
        (record { answers = refl; stored = refl; desk = abs-put d d.clock d.n d.m s idle_session d.holders (session-there N M img d h s l) })
    finish-by l (Active b) (c ∷ cs) z = rw (bare l (c ∷ cs) z) (does-refuse d f finish-call 17 (omega arith))
    finish-by l (Sealed n) cs z = does-refuse d f finish-call 5 (omega arith)
    finish-by l (Published n) cs z = does-refuse d f finish-call 5 (omega arith)

    pub listen-finish-sim : Sim (listen (Finish len s)) f d (finish_told (listen_finish_reply img d len s).answer) [] (listen_finish_reply img d len s).desk
        (due_of N M f (ceiling_of img) (abs d) hist (listen (Finish len s)))
    unfolding listen_finish_reply listener_fault
    listen-finish-sim =
        rw (unlisted (first (image_fault img d (room_for len) s) (first (unless (is_active e.phase) 6) (unless (no_copies d s) 18)))) at
        (past-four d f finish-call N M img len s _ _ h (λ l. finish-by l e.phase (copies_of e) refl))

  -- ---- read

  module _ (H : Holds N M img (abs d) hist) where
    -- what an active session without copies reads
    heard : s < M → (b : ℕ) → e.phase ≡ Active b → copies_of e ≡ [] → (r : ℕ) → r < N
        → Sim (read s r) f d (read_told (read_done img d s r).answer) [] (read_done img d s r).desk
        (reads_other (shown_by b (abs d) (holder M (abs d) r)) (view_at hist b r))
    heard l b i z r lr = rw z at (reads-active N M img d s r f hist h H l lr b i)

    module _ (r : ℕ) where
      abbrev ReadSim : Reply Sight → Due → Type 0
      ReadSim x y = Sim (listen (Read s r)) f d (read_told x.answer) [] x.desk y

      as-heard : (x : Reply Sight) (y : Due) → Sim (read s r) f d (read_told x.answer) [] x.desk y → ReadSim x y
      as-heard x y a = record { answers = a.answers; stored = a.stored; desk = a.desk }

      pub listen-read-sim : ReadSim (listen_read_reply img d s r) (due_of N M f (ceiling_of img) (abs d) hist (listen (Read s r)))
      unfolding listen_read_reply listen_read_fault read_fault answered first cause
      listen-read-sim =
          rw (image-check N M img d h s, record-check N M img d h r) (go (leb M s) (leb N r) (leb-false M s) (leb-false N r) e.phase refl (copies_of e) refl)
        where
          go : (over past : Bool) → (over ≡ false → s < M) → (past ≡ false → r < N) → (p : Phase) → e.phase ≡ p → (cs : List TxnCopy) → copies_of e ≡ cs
              → ReadSim (answered (first (first (cond over 4 0) (first (cond past 5 0) (unless (is_active p) 6))) (unless (no_copies d s) 18)) (read_refused d) (read_done img d s r))
              (cond over (refuse 4) (cond past (refuse 5) (hears M (abs d) hist r (txn-of p e.slot cs))))
          go true past b c p i cs z = told (listen (Read s r)) f d (refusal 4) refl
          go false true b c p i cs z = told (listen (Read s r)) f d (refusal 5) refl
          go false false b c Idle i cs z = told (listen (Read s r)) f d (refusal 6) refl
          go false false b c (Active n) i [] z = rw (bare (b refl) [] z) (as-heard (read_done img d s r) (reads_other (shown_by n (abs d) (holder M (abs d) r)) (view_at hist n r)) (heard (b refl) n i z r (c refl)))
          go false false b c (Active n) i (x ∷ cs) z = rw (bare (b refl) (x ∷ cs) z) (told (listen (Read s r)) f d (refusal 18) refl)
          go false false b c (Sealed n) i cs z = told (listen (Read s r)) f d (refusal 6) refl
          go false false b c (Published n) i cs z = told (listen (Read s r)) f d (refusal 6) refl

    -- ---- find

    module _ (k : ℕ) where
      -- the records that it looks at past its checks
      abbrev looks-done : Looks
      looks-done = record { number = looked_at img d s k; gives = look_gives img d s }

      -- with this fault it tells what is due, and looks at the records that are due
      record FindSim (j : ℕ) (y : Due) (x : Looks) : Type 0 where
        sim : Sim (listen (Find s k)) f d (find_told (answered j (find_refused d) (find_done img d s k)).answer) [] (answered j (find_refused d) (find_done img d s k)).desk y
        looks : SameLooks (answered j (λ i. no_looks) looks-done) (cond (is_refusal y.answer) no_looks x)

      turned : (j : ℕ) → j < 20 → (x : Looks) → FindSim (suc j) (refuse (suc j)) x
      unfolding answered
      turned j l x = record { sim = rw (tells-cause j l) (told (listen (Find s k)) f d (refusal (suc j)) refl); looks = record { number = refl; gives = λ r l. refl } }

      module _ (l : s < M) (b : ℕ) (i : e.phase ≡ Active b) (z : copies_of e ≡ []) where
        -- each record gives what is due of a read
        look-due : (r : ℕ) → r < N → look_gives img d s r ≡ (reads_other (shown_by b (abs d) (holder M (abs d) r)) (view_at hist b r)).answer
        look-due r lr = sym (read-done img d s r).tells ∙ (heard l b i z r lr).answers

        match-due : (r : ℕ) → r < N → matches img d s k r ≡ shelved_at hist b k r
        match-due r lr =
            ap (λ w. eqb w k)
            (ap (λ (ws : List ℕ). get_or ws 0 0) (sym (read-done img d s r).words)
            ∙ ap (λ (t : Told). get_or (words_told t) 0 0) (look-due r lr)
            ∙ other_word (shown_by b (abs d) (holder M (abs d) r)) (view_at hist b r))

        -- the record that it ends at
        abbrev end : ℕ
        end = lowest N (shelved_at hist b k)

        ends-due : first_match img d s k ≡ end
        unfolding first_match
        ends-due = ap (λ n. lowest n (matches img d s k)) h.n-same ∙ lowest-same (matches img d s k) (shelved_at hist b k) N match-due

        found : FindSim 0 (finds (first_shelved N hist b k)) (looks_of N M (abs d) hist k (active b e.slot []))
        unfolding answered looked_at
        found =
            rw (first-lowest (shelved_at hist b k) N)
            (by-test (ltb end N)
            (λ y. rw y
            (record {
              sim = record { answers = rw (ends-due, h.n-same, y) refl; stored = refl; desk = refl };
              looks = record { number = rw (ends-due, h.n-same, y) (add-one end); gives = λ r lr. look-due r (omega (arith, ltb-true end N y)) };
            }))
            (λ y. rw y
            (record {
              sim = record { answers = rw (ends-due, h.n-same, y) refl; stored = refl; desk = refl };
              looks = record { number = rw (ends-due, h.n-same, y) refl; gives = λ r lr. look-due r lr };
            })))

      find-sim : FindSim (find_fault img d s k) (due_of N M f (ceiling_of img) (abs d) hist (listen (Find s k))) (looks_of N M (abs d) hist k ((abs d).session s))
      unfolding find_fault listener_fault first
      find-sim = rw (image-check N M img d h s) (go (shelf_b k) (leb M s) (leb-false M s) e.phase refl (copies_of e) refl)
        where
          go : (shelved over : Bool) → (over ≡ false → s < M) → (p : Phase) → e.phase ≡ p → (cs : List TxnCopy) → copies_of e ≡ cs
              → FindSim (first (unless shelved 15) (first (cond over 4 0) (first (unless (is_active p) 6) (unless (no_copies d s) 18))))
              (cond shelved (cond over (refuse 4) (searches N hist k (txn-of p e.slot cs))) (refuse 15))
              (looks_of N M (abs d) hist k (txn-of p e.slot cs))
          go false over b p i cs z = turned 14 (omega arith) _
          go true true b p i cs z = turned 3 (omega arith) _
          go true false b Idle i cs z = turned 5 (omega arith) _
          go true false b (Active n) i [] z = rw (bare (b refl) [] z) (found (b refl) n i z)
          go true false b (Active n) i (x ∷ cs) z = rw (bare (b refl) (x ∷ cs) z) (turned 17 (omega arith) _)
          go true false b (Sealed n) i cs z = turned 5 (omega arith) _
          go true false b (Published n) i cs z = turned 5 (omega arith) _

      pub find-told-sim : Sim (listen (Find s k)) f d (find_told (find_reply img d s k).answer) [] (find_reply img d s k).desk (due_of N M f (ceiling_of img) (abs d) hist (listen (Find s k)))
      unfolding find_reply
      find-told-sim = find-sim.sim

      pub find-looks-sim : SameLooks (find_looks img d s k)
          (cond (is_refusal (due_of N M f (ceiling_of img) (abs d) hist (listen (Find s k))).answer) no_looks (looks_of N M (abs d) hist k ((abs d).session s)))
      find-looks-sim = find-sim.looks
