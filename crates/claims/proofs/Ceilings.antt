-- Word 3 is left alone by all but opening and publish; the ceiling in numbers, by computation.
use Prim.Native.Nat.{ℕ, zero, suc, ◌+◌, ◌≤◌, ◌<◌}
use mathlib.Core.Bool.{Bool, true, false, cond, false≢true}
use mathlib.Core.Path.{◌≡◌, refl, sym}
use mathlib.Core.Logic.{inl, inr, ⊎_elim}
use mathlib.Core.List.{List, [], ◌∷◌, ◌++◌}
use native.Mathlib.Omega.{arith}
use lib.Dec.{eqb}
use lib.ListN.{get_or, set, take, length-set}
use lib.Seq.{get_or-set_other}
use Rattle.layout.specs.Below.{all_below, any_below, count_below, lowest}
use Rattle.layout.specs.Ceiling.{pass_entries}
use Rattle.layout.specs.Checks.{first, answered}
use Rattle.layout.specs.Entries.{Entry, store, fence, Write, stores, shift}
use Rattle.layout.specs.Homes.{homes_writes}
use Rattle.layout.specs.Image.{records_of, home_words, place_of, slot_at, shaped_b, occupied_b}
use Rattle.layout.specs.Lay.{lay_fault, laid_image}
use Rattle.layout.specs.Oldest.{oldest_of}
use Rattle.layout.specs.Refusal.{cause}
use Rattle.layout.specs.Told.{is_refusal}
use Rattle.journal.specs.Log.{Slot, count_of, rec_of, words_of, short_b, pairs_of, index_of, word_of, pairs_writes, denoted, log_entries, unsound_b, shared_b}
use Rattle.desk.specs.Coherent.{fresh_b, places_ok, session_ok, copies_b, coherent_b}
use Rattle.desk.specs.Desk.{copied_rec, copied_words, session_at}
use Rattle.desk.specs.Entering.{entry_fault}
use Rattle.desk.specs.Publish.{publish_fault, publish_entries, publish_refused, published, publish_reply}
use Rattle.desk.specs.Told.{publish_told}
use Rattle.desk.specs.declared.state.Desk.{Desk}
use Rattle.recovery.specs.Open.{open_fault, open_entries, open_reply}
use Rattle.recovery.specs.Recover.{log_at, unsound_place, tied_below, ties_b, recover_fault, first_log, clean_b, replay_entries, recover_entries, recover_reply}
use Rattle.snapshot.specs.Read.{read_fault, read_reply}
use Rattle.commit.specs.Finish.{finish_fault, seal_entries, finish_entries}
use Rattle.commit.specs.Settle.{settle_fault, go_home_entries, waits_b, settle_entries}
use Rattle.commit.specs.Reclaim.{reclaim_fault, none_left, held_b, clear_entries, reclaim_entries}
use Rattle.claims.specs.Ceilings.{Keeps, CeilingKept, Ceilings}
use Rattle.claims.specs.Demands.{PublishRight, PublishStores}
use Rattle.claims.specs.Rules.{store_rules}
use Rattle.history.specs.Looks.{no_looks}
use Rattle.history.proofs.Cuts.{Stored, stored-take, arrived-word, made_word}

-- ---- on any image and desk

-- every store is behind the header
abbrev Behind : List Entry → Type 0
Behind [] = Unit {0}
Behind (store i w ∷ es) = (4 ≤ i) × Behind es
Behind (fence ∷ es) = Behind es

nowhere : (es : List Entry) (w : ℕ) → Behind es → Stored 3 w es → ⊥
nowhere [] w b h = h
nowhere (store i v ∷ es) w b (inl e) = omega (arith, e.0, b.0)
nowhere (store i v ∷ es) w b (inr h) = nowhere es w b.1 h
nowhere (fence ∷ es) w b h = nowhere es w b h

keeps : (es : List Entry) (img : List ℕ) → Behind es → Keeps es img
keeps es img b =
    record {
      whole = ⊎_elim (λ e. e) (λ h. absurd (nowhere es _ b h)) (made_word es img 3);
      cut = λ k sel. ⊎_elim (λ e. e) (λ h. absurd (nowhere es _ b (stored-take k 3 _ es h))) (arrived-word sel zero (take k es) img 3);
    }

either : (b : Bool) (xs ys : List Entry) → Behind xs → Behind ys → Behind (cond b xs ys)
either true xs ys x y = x
either false xs ys x y = y

unless-refused : (k : ℕ) (es : List Entry) → Behind es → Behind (answered k (λ _. []) es)
unfolding answered
unless-refused zero es b = b
unless-refused (suc k) es b = tt

-- a slot is behind the header, and so are the home records
in-slot : (base : ℕ) (es : List Entry) → 4 ≤ base → Behind (shift base es)
in-slot base [] l = tt
in-slot base (store i w ∷ es) l = (omega (arith, l), in-slot base es l)
in-slot base (fence ∷ es) l = in-slot base es l

abbrev Home : List Write → Type 0
Home [] = Unit {0}
Home (x ∷ ws) = (4 ≤ x.0) × Home ws

home-append : (xs ys : List Write) → Home xs → Home ys → Home (xs ++ ys)
home-append [] ys x y = y
home-append (w ∷ xs) ys x y = (x.0, home-append xs ys x.1 y)

homes : (rec : ℕ → ℕ) (words : ℕ → List ℕ) (k : ℕ) → Home (homes_writes rec words k)
unfolding homes_writes
homes rec words zero = tt
homes rec words (suc k) = home-append (homes_writes rec words k) _ (homes rec words k) (omega arith, (omega arith, (omega arith, (omega arith, tt))))

pairs : (index word : ℕ → ℕ) (k : ℕ) → Home (pairs_writes index word k)
unfolding pairs_writes
pairs index word zero = tt
pairs index word (suc k) = home-append (pairs_writes index word k) _ (pairs index word k) (omega arith, tt)

at_home : (ws : List Write) (es : List Entry) → Home ws → Behind es → Behind (stores ws ++ es)
at_home [] es h b = b
at_home (w ∷ ws) es h b = (h.0, at_home ws es h.1 b)

-- whatever the log's form
log-home : (f : Slot) → Home (denoted f)
unfolding denoted
log-home f = go (short_b f)
  where
    go : (b : Bool) → Home (cond b (pairs_writes (index_of f) (word_of f) (pairs_of f)) (homes_writes (rec_of f) (words_of f) (count_of f)))
    go true = pairs (index_of f) (word_of f) (pairs_of f)
    go false = homes (rec_of f) (words_of f) (count_of f)

seal : (img : List ℕ) (d : Desk) (s : ℕ) → Behind (seal_entries img d s)
seal img d s =
    in-slot (slot_at d.n (place_of s (session_at d s).slot))
    (log_entries d.n (home_words img) d.clock (copied_rec (session_at d s)) (copied_words (session_at d s)) (session_at d s).count) (omega arith)

go-home : (d : Desk) (s : ℕ) → Behind (go_home_entries d s)
go-home d s =
    at_home (homes_writes (copied_rec (session_at d s)) (copied_words (session_at d s)) (session_at d s).count) (fence ∷ [])
    (homes (copied_rec (session_at d s)) (copied_words (session_at d s)) (session_at d s).count) tt

replay : (img : List ℕ) (p : ℕ) → Behind (replay_entries img p)
replay img p =
    at_home (denoted (log_at img p)) (fence ∷ store (slot_at (records_of img) p) 0 ∷ fence ∷ [])
    (log-home (log_at img p)) (omega arith, tt)

clear : (img : List ℕ) (d : Desk) (s : ℕ) → Behind (clear_entries img d s)
clear img d s = (omega arith, tt)

any-shaped : (img : List ℕ) (w : ℕ) → shaped_b (set img 3 w) ≡ shaped_b img
unfolding shaped_b
any-shaped img w = rw (word-stays 0 (omega arith), word-stays 1 (omega arith), word-stays 2 (omega arith), length-set img 3 w) refl
  where
    word-stays : (j : ℕ) → j < 3 → get_or (set img 3 w) j 0 ≡ get_or img j 0
    word-stays j l = get_or-set_other img 3 j w 0 (λ e. omega (arith, e, l))

pub ceiling-kept : CeilingKept
unfolding finish_entries settle_entries reclaim_entries recover_entries
ceiling-kept =
    record {
      any-shaped = any-shaped;
      finish = λ img d len s.
          keeps (finish_entries img d len s) img
          (unless-refused (finish_fault img d len s) (cond (eqb (session_at d s).count 0) [] (seal_entries img d s))
          (either (eqb (session_at d s).count 0) [] (seal_entries img d s) tt (seal img d s)));
      settle = λ img d len s.
          keeps (settle_entries img d len s) img
          (unless-refused (settle_fault img d len s) (cond (waits_b d s) [] (go_home_entries d s))
          (either (waits_b d s) [] (go_home_entries d s) tt (go-home d s)));
      reclaim = λ img d len s.
          let held = cond (held_b img d s) [] (clear_entries img d s) in
          keeps (reclaim_entries img d len s) img
          (unless-refused (reclaim_fault img d len s) (cond (none_left img d s) [] held)
          (either (none_left img d s) [] held tt (either (held_b img d s) [] (clear_entries img d s) tt (clear img d s))));
      recover = λ img len.
          let replayed = replay_entries img (first_log img).place in
          keeps (recover_entries img len) img
          (unless-refused (recover_fault img len) (cond (clean_b img) [] replayed)
          (either (clean_b img) [] replayed tt (replay img (first_log img).place)));
    }

-- publish, past its checks
pub publish-stores : PublishStores store_rules
unfolding publish_reply publish_entries answered
publish-stores img d len s e = go (publish_fault img d len s) e
  where
    go : (k : ℕ) → is_refusal (publish_told (answered k (publish_refused d) (published img d s)).answer) ≡ false
        → PublishRight img d (record {
          told = publish_told (answered k (publish_refused d) (published img d s)).answer;
          entries = answered k (λ _. []) (pass_entries img (d.clock + 1));
          count = (answered k (publish_refused d) (published img d s)).entries;
          desk = (answered k (publish_refused d) (published img d s)).desk;
          looks = no_looks;
        })
    go zero e = record { ends = refl; ticks = refl; stores = refl }
    go (suc k) e = absurd (false≢true (sym e))

-- ---- in numbers

pub ceilings : Ceilings
unfolding all_below any_below count_below lowest first answered cause shaped_b occupied_b lay_fault laid_image oldest_of unsound_b shared_b fresh_b places_ok session_ok copies_b coherent_b entry_fault publish_fault publish_entries publish_reply open_fault open_entries open_reply unsound_place tied_below ties_b recover_fault first_log recover_reply read_fault read_reply
ceilings =
    record {
      laid = refl;
      laid-clock = refl;
      laid-stores = refl;
      next-clock = refl;
      next-stores = refl;
      last-clock = refl;
      last-stores = refl;
      at-limit = refl;
      at_top = refl;
      recover-top = refl;
      occupied = refl;
      short = refl;
      wrong = refl;
      end_below = refl;
      end-at = refl;
      end-above = refl;
      end-told = refl;
      end-counted = refl;
      end-last = refl;
      clock-above = refl;
      read_above = refl;
      read-at = refl;
    }
