-- Rules that meet demand 3 last for any list of lives; so the store's do.
use Prim.Native.Nat.{ℕ, ◌<◌}
use mathlib.Core.Path.{◌≡◌, refl, sym, ap, ◌∙◌}
use mathlib.Core.Option.{Option, none, some}
use mathlib.Core.List.{List, [], ◌∷◌, ◌++◌}
use Rattle.layout.specs.Image.{records_of, home_words}
use Rattle.layout.specs.Told.{Told, is, refused_by, value_of, Ok, Start, Sealed, End}
use Rattle.layout.proofs.Says.{by-test}
use Rattle.history.specs.Call.{Listening, Begin, Read, Finish, Find, Call, begin, read, write, abandon, finish, publish, group, settle, reclaim, listen}
use Rattle.history.specs.Cut.{number_arrived, feed_cut}
use Rattle.history.specs.Desk.{Desk, find}
use Rattle.history.specs.Due.{four_words}
use Rattle.history.specs.History.{Seal, History, feed_listening, feed, over, applied}
use Rattle.history.specs.Ledger.{note}
use Rattle.claims.specs.Rules.{Rules, store_rules}
use Rattle.claims.specs.Run.{World, opened, reply, step, run}
use Rattle.claims.specs.Demands.{Cut, opening, during, cut_image, cut_history, Recovered, Demand3}
use Rattle.claims.specs.Lives.{Life, Comes, after_life, AllCome, after_lives, sealed_in, Lives}
use Rattle.claims.proofs.Demands.{demand3}

-- ---- lists of entries

applied-append : (xs ys : List Seal) (r : ℕ) (z : List ℕ) → applied (xs ++ ys) r z ≡ applied ys r (applied xs r z)
applied-append [] ys r z = refl
applied-append (x ∷ xs) ys r z = applied-append xs ys r _

-- four words are enough
applied-four : (xs : List Seal) (r : ℕ) (y z : List ℕ) → four_words y ≡ four_words z → four_words (applied xs r y) ≡ four_words (applied xs r z)
applied-four [] r y z e = e
applied-four (x ∷ xs) r y z e = applied-four xs r _ _ (go (find r x.draft))
  where
    go : (o : Option (List ℕ)) → four_words (over o y) ≡ four_words (over o z)
    go none = e
    go (some ws) = refl

-- ---- the opening records stay in the history

listening-opening : (c : Listening) (t : Told) (h : History) → (feed_listening c t h).opening ≡ h.opening
listening-opening (Begin s) t h = by-test (is Start t) (λ e. rw e refl) (λ e. rw e refl)
listening-opening (Read s r) t h = refl
listening-opening (Finish len s) t h = refl
listening-opening (Find s k) t h = refl

feed-opening : (c : Call) (t : Told) (h : History) → (feed c t h).opening ≡ h.opening
feed-opening (begin s) t h = listening-opening (Begin s) t h
feed-opening (read s r) t h = refl
feed-opening (write s r ws) t h =
    by-test (is Ok t) (λ e. rw e refl) (λ e. by-test (refused_by 7 t) (λ k. rw (e, k) refl) (λ k. rw (e, k) refl))
feed-opening (abandon s) t h = by-test (is Ok t) (λ e. rw e refl) (λ e. rw e refl)
feed-opening (finish len s) t h = by-test (is Sealed t) (λ e. rw e refl) (λ e. rw e refl)
feed-opening (publish len s) t h = by-test (is End t) (λ e. rw e refl) (λ e. rw e refl)
feed-opening (group len set) t h = by-test (is End t) (λ e. rw e refl) (λ e. rw e refl)
feed-opening (settle len s) t h = refl
feed-opening (reclaim len s) t h = refl
feed-opening (listen c) t h = listening-opening c t h

cut-opening : (N : ℕ) (d : Desk) (c : Call) (t : Told) (img : List ℕ) (h : History) → (feed_cut N d c t img h).opening ≡ h.opening
cut-opening N d (begin s) t img h = refl
cut-opening N d (read s r) t img h = refl
cut-opening N d (write s r ws) t img h = refl
cut-opening N d (abandon s) t img h = refl
cut-opening N d (publish len s) t img h = refl
cut-opening N d (group len set) t img h = refl
cut-opening N d (settle len s) t img h = refl
cut-opening N d (reclaim len s) t img h = refl
cut-opening N d (listen c) t img h = refl
cut-opening N d (finish len s) t img h =
    by-test (is Sealed t) (λ e. by-test (number_arrived N d s (value_of t) img) (λ k. rw (e, k) refl) (λ k. rw (e, k) refl)) (λ e. rw e refl)

module _ (R : Rules) where
  run-opening : (calls : List Call) (w : World) → (run R calls w).ledger.history.opening ≡ w.ledger.history.opening
  unfolding run step note
  run-opening [] w = refl
  run-opening (c ∷ cs) w = run-opening cs (step R w c) ∙ feed-opening c (reply R w c).told w.ledger.history

  history-opening : (img : List ℕ) (len : ℕ) (cut : Cut) → (cut_history R img len cut).opening ≡ home_words img
  history-opening img len (opening k sel) = refl
  history-opening img len (during calls c k sel) =
      cut-opening (records_of img) (run R calls (opened R img len)).ledger.desk c
      (reply R (run R calls (opened R img len)) c).told (cut_image R img len (during calls c k sel))
      (run R calls (opened R img len)).ledger.history
      ∙ run-opening calls (opened R img len)

  -- ---- lives

  module _ (d : Demand3 R) where
    -- one life
    pub one-life : (img : List ℕ) (life : Life) → Comes R img life
        → Recovered R img (cut_image R img life.trace life.cut) (cut_history R img life.trace life.cut) (after_life R img life)
    unfolding after_life
    one-life img life e = (d img life.trace e.opens life.cut life.attempts).clean-right life.whole life.last life.arrives e.cleans

    record Lasts (img : List ℕ) (lives : List Life) : Type 0 where
      n-same : records_of (after_lives R lives img) ≡ records_of img
      records : (r : ℕ) → r < records_of img → home_words (after_lives R lives img) r ≡ four_words (applied (sealed_in R lives img) r (home_words img r))

    lasts : (lives : List Life) (img : List ℕ) → AllCome R lives img → Lasts img lives
    unfolding AllCome after_lives sealed_in
    lasts [] img e = record { n-same = refl; records = λ r l. refl }
    lasts (life ∷ rest) img e =
        let a = one-life img life e.0 in
        let b = lasts rest (after_life R img life) e.1 in
        record {
          n-same = b.n-same ∙ a.n-same;
          records = λ r l.
              b.records r (rw a.n-same l)
              ∙ applied-four (sealed_in R rest (after_life R img life)) r _ _ (ap four_words (a.records r l))
              ∙ ap (λ (z : ℕ → List ℕ). four_words (applied (sealed_in R rest (after_life R img life)) r (applied (cut_history R img life.trace life.cut).sealed r (z r))))
              (history-opening img life.trace life.cut)
              ∙ ap four_words (sym (applied-append (cut_history R img life.trace life.cut).sealed (sealed_in R rest (after_life R img life)) r (home_words img r)));
        }

    pub lives-last : Lives R
    lives-last img lives e =
        let a = lasts lives img e in
        record {
          records = a.records;
          book = λ life c r l. (one-life (after_lives R lives img) life c).records r (rw a.n-same l);
          ceiling = λ life c. (one-life (after_lives R lives img) life c).ceiling;
          opens = λ life c x. (one-life (after_lives R lives img) life c).opens x;
        }

pub store-lives : Lives store_rules
store-lives = lives-last store_rules demand3
