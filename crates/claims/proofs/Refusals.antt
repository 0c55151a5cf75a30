-- Every refusal, by the shape that the calls share.
use Prim.Native.Nat.{ℕ, zero, suc, ◌-◌, ◌≤◌}
use mathlib.Core.Bool.{Bool, true, false, ◌&&◌, not, cond}
use mathlib.Core.Path.{◌≡◌, refl, sym, ap, ◌∙◌}
use mathlib.Core.List.{List, [], ◌∷◌}
use native.Mathlib.Omega.{arith}
use lib.Dec.{eqb, ltb}
use lib.ListN.{length}
use borrow.Author.Tests.{eqb-true, not-true}
use Rattle.std.specs.Prelude.{⊤, Option, Ok, Err}
use Rattle.layout.specs.Checks.{answered}
use Rattle.layout.proofs.ChecksLaws.{answered-not}
use Rattle.layout.specs.Entries.{Entry, made, listed}
use Rattle.layout.specs.Lay.{lay_fault, lay_answer, laid_image, empty_image}
use Rattle.layout.specs.Tidy.{Tidy}
use Rattle.layout.specs.Refusal.{Answer, cause, number_of, value_with}
use Rattle.layout.specs.Told.{Told, refused, refusal, is_refusal, lay_told}
use Rattle.layout.proofs.Says.{by-test, says-and, says-itself}
use Rattle.desk.specs.Desk.{session_at, mark_at, is_idle, is_active, dropped}
use Rattle.desk.specs.Begin.{begin_fault, begin_refused, begun, begin_reply}
use Rattle.desk.specs.Abandon.{abandon_fault, abandon_refused, abandoned, abandon_reply}
use Rattle.desk.specs.Publish.{publish_refused, published, publish_reply}
use Rattle.desk.specs.Group.{grouped, group_reply}
use Rattle.desk.specs.Told.{begin_told, abandon_told, publish_told}
use Rattle.desk.specs.declared.reply.Reply.{Reply}
use Rattle.desk.specs.declared.reply.StoringReply.{StoringReply}
use Rattle.desk.specs.declared.state.Desk.{Desk}
use Rattle.snapshot.specs.Read.{read_fault, read_refused, read_done, read_reply}
use Rattle.snapshot.specs.Write.{write_says, write_refused, write_done, write_reply}
use Rattle.snapshot.specs.Told.{read_told, write_told}
use Rattle.snapshot.specs.declared.seeing.Sight.{Sight}
use Rattle.snapshot.proofs.ToldLaws.{read-done}
use Rattle.commit.specs.Finish.{finish_refused, finish_done, finish_reply}
use Rattle.commit.specs.Settle.{settle_refused, settle_done, waits_b, settle_reply}
use Rattle.commit.specs.Reclaim.{reclaim_refused, reclaim_done, none_left, held_b, reclaim_reply}
use Rattle.commit.specs.Told.{finish_told, settle_told, reclaim_told}
use Rattle.commit.specs.declared.reclaiming.Reclaimed.{Reclaimed}
use Rattle.recovery.specs.Open.{open_refused, opened, open_reply}
use Rattle.recovery.specs.Recover.{unsound_place, recover_refused, recover_done, clean_b, recover_reply}
use Rattle.recovery.specs.Told.{open_told, recover_told}
use Rattle.recovery.specs.declared.recovering.RecoverReply.{RecoverReply}
use Rattle.listening.specs.Read.{listen_read_fault, listen_read_reply}
use Rattle.listening.specs.Finish.{listen_finish_reply}
use Rattle.listening.specs.Find.{first_match, find_refused, find_done, find_reply}
use Rattle.listening.specs.Told.{find_told}
use Rattle.history.specs.Call.{Listening, Begin, Read, Finish, Find, Call, begin, read, write, abandon, finish, publish, group, settle, reclaim, listen}
use Rattle.claims.proofs.Causes.{tells-cause, row-most}
use Rattle.claims.proofs.Lists.{lists}
use Rattle.claims.proofs.Rows.{desk-row, lay-row, open-row, recover-row, finish-row, publish-row, group-row, settle-row, reclaim-row, read-row, write-row, listen-read-row, listen-finish-row, find-row}
use Rattle.claims.specs.Rules.{listening_call, store_rules}
use Rattle.claims.specs.Refusals.{Cause, number, holds, Given, first_refusal, lay_row, open_row, recover_row, row, of_image, given, only, words_read, TurnedAway, StoresNothing, Refusals}

-- a call whose fault is k: its refusal by k tells k and this value and leaves what is to be kept, and past its checks it refuses nothing
turned : {A B : Type 0} (told : B → Told) (left : B → A) (refusal : ℕ → B) (done : B) {fault k value : ℕ} {kept : A} → fault ≡ k
    → ((k ≡ 0 → ⊥) → told (refusal k) ≡ refused k value) → left (refusal k) ≡ kept → is_refusal (told done) ≡ false
    → TurnedAway (told (answered fault refusal done)) k value (left (answered fault refusal done)) kept
unfolding answered
turned told left refusal done {fault} {k} {value} {kept} e t l z = rw e (go k t l)
  where
    go : (k : ℕ) → ((k ≡ 0 → ⊥) → told (refusal k) ≡ refused k value) → left (refusal k) ≡ kept
        → TurnedAway (told (answered k refusal done)) k value (left (answered k refusal done)) kept
    go zero t l = record { refuses = λ n. absurd (n refl); passes = λ n. z; leaves = λ n. absurd (n refl) }
    go (suc k) t l = record { refuses = t; passes = λ n. absurd (omega (arith, n)); leaves = λ n. l }

-- something else is left
leaving : {A B : Type 0} {told : Told} {k value : ℕ} {x y : A} {left kept : B}
    → TurnedAway told k value x y → ((k ≡ 0 → ⊥) → left ≡ kept) → TurnedAway told k value left kept
leaving t l = record { refuses = t.refuses; passes = t.passes; leaves = l }

-- one of two results
either : {B : Type 0} (told : B → Told) (b : Bool) (x y : B) → is_refusal (told x) ≡ false → is_refusal (told y) ≡ false → is_refusal (told (cond b x y)) ≡ false
either told true x y p q = p
either told false x y p q = q

-- the cause of a number of the table tells that number alone
numbered : (k : ℕ) → k ≤ 20 → (k ≡ 0 → ⊥) → refused (number_of (cause k)) (value_with (cause k)) ≡ refusal k
numbered zero l n = absurd (n refl)
numbered (suc k) l n = tells-cause k (omega arith)

-- a refusal that alone has a value
valued : {B : Type 0} (told : B → Told) (number value : ℕ) (this : B) (other : ℕ → B)
    → told this ≡ refused number value → ((k : ℕ) → told (other k) ≡ refused (number_of (cause k)) (value_with (cause k)))
    → (k : ℕ) → k ≤ 20 → (k ≡ 0 → ⊥) → told (cond (eqb k number) this (other k)) ≡ refused k (only number value 0 k)
valued told number value this other t o k l n = by-test (eqb k number) (λ e. rw (e, eqb-true k number e) t) (λ e. rw e (o k ∙ numbered k l n))

-- no cause of the row has the number 7
abbrev sparing : List Cause → Bool
sparing [] = true
sparing (c ∷ row) = not (eqb (number c) 7) && sparing row

not-seven : (row : List Cause) (g : Given) → sparing row ≡ true → eqb (first_refusal row g) 7 ≡ false
unfolding first_refusal
not-seven [] g e = refl
not-seven (c ∷ row) g e =
    let h = (says-and (says-itself (not (eqb (number c) 7))) (says-itself (sparing row))).yes e in go (holds c g) h.0 (not-seven row g h.1)
  where
    go : (b : Bool) → not (eqb (number c) 7) ≡ true → eqb (first_refusal row g) 7 ≡ false → eqb (cond b (number c) (first_refusal row g)) 7 ≡ false
    go true x y = not-true _ x
    go false x y = y

-- what the claim says of a session call
abbrev CallTurned : List ℕ → Desk → Call → Told → Desk → Type 0
CallTurned img d c told left =
    TurnedAway told (first_refusal (row c) (given img d c)) (only 7 (mark_at d (given img d c).rec - 1) 0 (first_refusal (row c) (given img d c)))
    left (only 7 (dropped d (given img d c).session) d (first_refusal (row c) (given img d c)))

-- a session call without refusal 7: its refusals have no value and leave the desk
plain : {B : Type 0} (img : List ℕ) (d : Desk) (c : Call) (told : B → Told) (left : B → Desk) (refusing : ℕ → B) (done : B) {fault : ℕ}
    → fault ≡ first_refusal (row c) (given img d c) → sparing (row c) ≡ true
    → ((k : ℕ) → told (refusing k) ≡ refused (number_of (cause k)) (value_with (cause k))) → ((k : ℕ) → left (refusing k) ≡ d) → is_refusal (told done) ≡ false
    → CallTurned img d c (told (answered fault refusing done)) (left (answered fault refusing done))
plain img d c told left refusing done e free t l z =
    let k = first_refusal (row c) (given img d c) in
    rw (not-seven (row c) (given img d c) free) (turned told left refusing done e (λ n. t k ∙ numbered k (row-most (row c) (given img d c)) n) (l k) z)

-- by the laws of the lists
stores-nothing : {fault k count : ℕ} {es : List Entry} → fault ≡ k → Tidy fault count es → (k ≡ 0 → ⊥) → StoresNothing count es
stores-nothing e t n =
    let nil = t.refused (λ z. n (sym e ∙ z)) in
    record {
      none = t.counted ∙ ap length nil;
      entries = nil;
      image = λ img. ap (λ es. made es img) nil;
      trace = λ trace. ap (λ es. listed es trace) nil;
    }

-- of a call that stores nothing in any case
no_stores : StoresNothing 0 []
no_stores = record { none = refl; entries = refl; image = λ img. refl; trace = λ trace. refl }

-- past its checks a read refuses nothing
read-takes : (img : List ℕ) (d : Desk) (s r : ℕ) → is_refusal (read_told (read_done img d s r).answer) ≡ false
read-takes img d s r = ap is_refusal (read-done img d s r).tells ∙ (read-done img d s r).takes

listening-turned : (img : List ℕ) (d : Desk) (c : Listening) → CallTurned img d (listen c) (listening_call img d c).told (listening_call img d c).desk
unfolding begin_reply begin_fault listen_read_reply listen_finish_reply find_reply
listening-turned img d (Begin s) =
    plain img d (listen (Begin s)) (λ (r : Reply ℕ). begin_told r.answer) (λ r. r.desk) (begin_refused d) (begun d s)
    (desk-row img d s is_idle) refl (λ k. refl) (λ k. refl) refl
listening-turned img d (Read s r) =
    plain img d (listen (Read s r)) (λ (x : Reply Sight). read_told x.answer) (λ x. x.desk) (read_refused d) (read_done img d s r)
    (listen-read-row img d s r) refl (λ k. refl) (λ k. refl) (read-takes img d s r)
listening-turned img d (Finish len s) =
    let told : StoringReply (Option ℕ) → Told = λ r. finish_told r.answer in
    plain img d (listen (Finish len s)) told (λ r. r.desk) (finish_refused d) (finish_done img d s) (listen-finish-row img d len s) refl (λ k. refl) (λ k. refl)
    (either told (eqb (session_at d s).count 0) _ _ refl refl)
listening-turned img d (Find s k) =
    plain img d (listen (Find s k)) (λ (x : Reply (Option ℕ)). find_told x.answer) (λ x. x.desk) (find_refused d) (find_done img d s k)
    (find-row img d s k) refl (λ j. refl) (λ j. refl) (by-test (ltb (first_match img d s k) d.n) (λ t. rw t refl) (λ t. rw t refl))

calls : (img : List ℕ) (d : Desk) (c : Call) → CallTurned img d c (store_rules.call img d c).told (store_rules.call img d c).desk
unfolding begin_reply begin_fault abandon_reply abandon_fault publish_reply group_reply read_reply write_reply write_refused finish_reply settle_reply reclaim_reply
calls img d (begin s) =
    plain img d (begin s) (λ (r : Reply ℕ). begin_told r.answer) (λ r. r.desk) (begin_refused d) (begun d s)
    (desk-row img d s is_idle) refl (λ k. refl) (λ k. refl) refl
calls img d (abandon s) =
    plain img d (abandon s) (λ (r : Reply ⊤). abandon_told r.answer) (λ r. r.desk) (abandon_refused d) (abandoned d s)
    (desk-row img d s is_active) refl (λ k. refl) (λ k. refl) refl
calls img d (publish len s) =
    plain img d (publish len s) (λ (r : StoringReply ℕ). publish_told r.answer) (λ r. r.desk) (publish_refused d) (published img d s)
    (publish-row img d len s) refl (λ k. refl) (λ k. refl) refl
calls img d (group len set) =
    plain img d (group len set) (λ (r : StoringReply ℕ). publish_told r.answer) (λ r. r.desk) (publish_refused d) (grouped img d set)
    (group-row img d len set) refl (λ k. refl) (λ k. refl) refl
calls img d (read s r) =
    plain img d (read s r) (λ (x : Reply Sight). read_told x.answer) (λ x. x.desk) (read_refused d) (read_done img d s r)
    (read-row img d s r) refl (λ k. refl) (λ k. refl) (read-takes img d s r)
calls img d (write s r ws) =
    let told : Reply ⊤ → Told = λ x. write_told x.answer in
    let k = first_refusal (row (write s r ws)) (given img d (write s r ws)) in
    turned told (λ x. x.desk) (write_refused d s r) (write_done img d s r ws) (write-row img d s r ws)
    (valued told 7 (mark_at d r - 1) _ (λ k. write_says d (Err (cause k))) refl (λ k. refl) k (row-most (row (write s r ws)) (given img d (write s r ws)))) (by-test (eqb k 7) (λ e. rw e) (λ e. rw e)) refl
calls img d (finish len s) =
    let told : StoringReply (Option ℕ) → Told = λ r. finish_told r.answer in
    plain img d (finish len s) told (λ r. r.desk) (finish_refused d) (finish_done img d s) (finish-row img d len s) refl (λ k. refl) (λ k. refl)
    (either told (eqb (session_at d s).count 0) _ _ refl refl)
calls img d (settle len s) =
    let told : StoringReply (Option ℕ) → Told = λ r. settle_told r.answer in
    plain img d (settle len s) told (λ r. r.desk) (settle_refused d) (settle_done d s) (settle-row img d len s) refl (λ k. refl) (λ k. refl)
    (either told (waits_b d s) _ _ refl refl)
calls img d (reclaim len s) =
    let told : StoringReply Reclaimed → Told = λ r. reclaim_told r.answer in
    plain img d (reclaim len s) told (λ r. r.desk) (reclaim_refused d) (reclaim_done img d s) (reclaim-row img d len s) refl (λ k. refl) (λ k. refl)
    (either told (none_left img d s) _ _ refl (either told (held_b img d s) _ _ refl refl))
calls img d (listen c) = listening-turned img d c

calls-store : (img : List ℕ) (d : Desk) (c : Call) → (first_refusal (row c) (given img d c) ≡ 0 → ⊥)
    → StoresNothing (store_rules.call img d c).count (store_rules.call img d c).entries
calls-store img d (listen (Begin s)) n = no_stores
calls-store img d (listen (Read s r)) n = no_stores
calls-store img d (listen (Finish len s)) n = rw (lists.listen-finish img d len s) no_stores
calls-store img d (listen (Find s k)) n = no_stores
calls-store img d (begin s) n = no_stores
calls-store img d (read s r) n = no_stores
calls-store img d (write s r ws) n = no_stores
calls-store img d (abandon s) n = no_stores
calls-store img d (publish len s) n = stores-nothing (publish-row img d len s) (lists.publish img d len s) n
calls-store img d (group len set) n = stores-nothing (group-row img d len set) (lists.group img d len set) n
calls-store img d (finish len s) n = stores-nothing (finish-row img d len s) (lists.finish img d len s) n
calls-store img d (settle len s) n = stores-nothing (settle-row img d len s) (lists.settle img d len s) n
calls-store img d (reclaim len s) n = stores-nothing (reclaim-row img d len s) (lists.reclaim img d len s) n

pub refusals : Refusals
unfolding lay_answer laid_image open_reply read_reply listen_read_reply recover_reply recover_refused unsound_place
refusals =
    record {
      lay = λ n m img.
          leaving
          (turned lay_told (λ (a : Answer ⊤). img) (λ k. Err (cause k)) (Ok tt) (lay-row n m img)
          (numbered _ (row-most lay_row (of_image img 0 n m))) refl refl)
          (λ z. answered-not (lay_fault n m (length img)) (λ k. img) (empty_image n m) (λ y. z (sym (lay-row n m img) ∙ y)));
      opens = λ img len.
          turned open-told (λ r. r.desk) open_refused (opened img) (open-row img len) (numbered _ (row-most open_row (of_image img len 0 0))) refl refl;
      opens-store = λ img len. stores-nothing (open-row img len) (lists.opens img len);
      calls = calls;
      recover = λ img len.
          let k = first_refusal recover_row (of_image img len 0 0) in
          leaving
          (turned recover-told (λ r. img) (recover_refused img) (recover_done img) (recover-row img len)
          (valued recover-told 12 (unsound_place img) _ (λ k. record { answer = Err (cause k); entries = 0 }) refl (λ k. refl) k
          (row-most recover_row (of_image img len 0 0)))
          refl
          (either recover-told (clean_b img) _ _ refl refl))
          (λ n. (stores-nothing (recover-row img len) (lists.recover img len) n).image img);
      read-words = λ img d s r n.
          ap (λ (x : Reply Sight). words_read x.answer)
          (answered-not (read_fault img d s r) (read_refused d) (read_done img d s r) (λ z. n (sym (read-row img d s r) ∙ z)));
      listen-read-words = λ img d s r n.
          ap (λ (x : Reply Sight). words_read x.answer)
          (answered-not (listen_read_fault img d s r) (read_refused d) (read_done img d s r) (λ z. n (sym (listen-read-row img d s r) ∙ z)));
      calls-store = calls-store;
      recover-stores = λ img len. stores-nothing (recover-row img len) (lists.recover img len);
    }
  where
    open-told : StoringReply ⊤ → Told
    open-told r = open_told r.answer

    recover-told : RecoverReply → Told
    recover-told r = recover_told r.answer
