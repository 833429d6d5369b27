-- No call of a sync takes the last success of the CronJob back.
use Rattle.std.proofs.Common.{◌≡◌, ℕ, ◌<◌, ◌≤◌, Bool, true, false, List, [], ◌∷◌, Option, Some, None, refl, sym, ap, subst, ◌∙◌, arith}
use Rattle.std.specs.Prelude.{if◌then◌else◌}
use Rattle.cj_fence.specs.declared.objects.Cron.{Cron}
use Rattle.cj_fence.specs.declared.call.Claim.{Claim}
use Rattle.cj_fence.specs.declared.call.Tidy.{Tidy}
use Rattle.cj_fence.specs.declared.call.Call.{Call}
use Rattle.cj_fence.specs.declared.call.Call.TheVariants as Of
use Rattle.cj_fence.specs.declared.answer.Answer.{Answer}
use Rattle.cj_fence.specs.declared.answer.Answer.TheVariants as Is
use Rattle.cj_fence.specs.declared.answer.Stamp.{Stamp}
use Rattle.cj_fence.specs.declared.sync.At.{At}
use Rattle.cj_fence.specs.declared.sync.Sync.{Sync}
use Rattle.cj_fence.specs.declared.sync.Sync.TheVariants.{Fresh, Looking, Ready, Holding, Starting, Tidying, Gone, Over}
use Rattle.cj_fence.specs.Texts.{is_same}
use Rattle.cj_fence.specs.Tables.{find, put}
use Rattle.cj_fence.specs.Objects.{look}
use Rattle.cj_fence.specs.Server.{refuses, puts_cron, takes, success_after, claimed, claim, tidied, tidy, served}
use Rattle.cj_fence.specs.Protocol.{seen_of, IsLater, MayTidy, May}
use Rattle.cj_fence.specs.History.{Deed, Asked, Wrote, Told, state_of, own}
use Rattle.cj_fence.specs.Success.{HasNotGoneBack, KeepsSuccess, IsSuccessKept, SuccessLaw}
use Rattle.cj_fence.proofs.FenceLemmas.Basics.{both_true, same_true, same_false, put_self}
use Rattle.cj_fence.proofs.FenceLemmas.Facts.{job_at, cron_at, AtBase, SyncFact, Inv}
use Rattle.cj_fence.proofs.FenceLemmas.Moves.{next}
use Rattle.cj_fence.proofs.FenceLemmas.Nexts.{same_read}
use Rattle.cj_fence.proofs.FenceLemmas.Entries.{LeavesCrons, crons_create, crons_start, crons_delete_where, crons_expire, claiming}
use Rattle.cj_fence.proofs.FenceLemmas.Lost.{put_other}
use Rattle.cj_fence.proofs.FenceLemmas.Whole.{MayDo, always_by}

-- A success that is sent is later than the one that stood, and where none is sent that one stays.
not_earlier : (sent : Option ℕ) (c : Cron) → IsLater sent c.success → c.success ≤ success_after sent c
not_earlier None c m = let l : c.success ≤ c.success = omega arith in l
not_earlier (Some s) c m = let b : c.success < s = m in let l : c.success ≤ s = omega arith in l

-- What stands as it did hasn't gone back.
same_cron : (g : List Told) (n : List ℕ) (c : Cron) → cron_at g n ≡ Some c → HasNotGoneBack g n c
same_cron g n c is = record { cron = c; stands = is; uid = refl; success = omega arith }

-- what is shown of each CronJob after a call
abbrev NoneBack : List Told → List Told → Type 0
NoneBack h g = (n : List ℕ) (c : Cron) → cron_at h n ≡ Some c → HasNotGoneBack g n c

-- A call that leaves the CronJobs takes none back.
left_so : (h : List Told) (t : Stamp) (y : ℕ) (call : Call) (a : Answer) → LeavesCrons h t call
    → NoneBack h (next h t (Asked y call true a))
left_so h t y call a e n c is = same_cron (next h t (Asked y call true a)) n c (ap (λ z. find n z) e ∙ is)

-- A call that puts the CronJob of a name, of the same uid and no earlier success, takes none back.
put_so : (h : List Told) (t : Stamp) (y : ℕ) (call : Call) (a : Answer) (k : List ℕ) (b x : Cron)
    → cron_at h k ≡ Some b → x.uid ≡ b.uid → b.success ≤ x.success
    → (served (state_of h) t call).cluster.crons ≡ put k x (state_of h).crons
    → NoneBack h (next h t (Asked y call true a))
put_so h t y call a k b x stands uid less e n c is = by_name (is_same k n) refl
  where
    by_name : (q : Bool) → is_same k n ≡ q → HasNotGoneBack (next h t (Asked y call true a)) n c
    by_name true s =
        let one : k ≡ n = same_true k n s in
        let at : cron_at h n ≡ Some b = subst (λ (z : List ℕ). cron_at h z ≡ Some b) one stands in
        let same : b ≡ c = cc (sym at ∙ is) in
        let now : find n (put k x (state_of h).crons) ≡ Some x =
        subst (λ (z : List ℕ). find z (put k x (state_of h).crons) ≡ Some x) one (put_self k x (state_of h).crons) in
        record {
          cron = x;
          stands = ap (λ z. find n z) e ∙ now;
          uid = uid ∙ ap (λ (z : Cron). z.uid) same;
          success = subst (λ (z : Cron). z.success ≤ x.success) same less;
        }
    by_name false s =
        same_cron (next h t (Asked y call true a)) n c
        (ap (λ z. find n z) e ∙ put_other k n x (state_of h).crons (same_false k n s) ∙ is)

-- The CronJob whose version is the one that the sync read has the success that it read.
read_so : {me : List ℕ} (h : List Told) (at : At) → Inv me h → AtBase h at → (n v : List ℕ) → n ≡ at.name
    → v ≡ at.cron.version → (sent : Option ℕ) → IsLater sent at.cron.success → (b : Cron) → cron_at h n ≡ Some b
    → is_same b.version v ≡ true → b.success ≤ success_after sent b
read_so h at f base n v name version sent m b is ok =
    let here : cron_at h at.name ≡ Some b = subst (λ (q : List ℕ). cron_at h q ≡ Some b) name is in
    let same : b ≡ at.cron = same_read f at base b here (same_true b.version v ok ∙ version) in
    not_earlier sent b (subst (λ (q : Cron). IsLater sent q.success) (sym same) m)

-- A status without its dead takes none back, by what stood.
by_tidy : {me : List ℕ} (h : List Told) (t : Stamp) (y : ℕ) (w : Tidy) (a : Answer) (at : At) → Inv me h
    → AtBase h at → MayTidy at w → (o : Option Cron) → cron_at h w.name ≡ o
    → NoneBack h (next h t (Asked y (Of.Tidy w) true a))
by_tidy h t y w a at f base m None e =
    left_so h t y (Of.Tidy w) a (ap (λ (o : Option Cron). (tidy (state_of h) t w o).cluster.crons) e)
by_tidy h t y w a at f base m (Some b) e = by_test (takes w.uid w.version b) refl
  where
    left : (q : Bool) → takes w.uid w.version b ≡ q → (tidy (state_of h) t w (cron_at h w.name)).cluster.crons
        ≡ (if q then puts_cron (state_of h) (Is.Written t.version) w.name (tidied t w b) else refuses
        (state_of h)).cluster.crons
    left q k =
        ap (λ (o : Option Cron). (tidy (state_of h) t w o).cluster.crons) e
        ∙ ap (λ (z : Bool). (if z then puts_cron (state_of h) (Is.Written t.version) w.name (tidied t w b) else refuses
        (state_of h)).cluster.crons) k

    by_test : (q : Bool) → takes w.uid w.version b ≡ q → NoneBack h (next h t (Asked y (Of.Tidy w) true a))
    by_test true k =
        let z = both_true (is_same b.uid w.uid) (is_same b.version w.version) k in
        put_so h t y (Of.Tidy w) a w.name b (tidied t w b) e refl
        (read_so h at f base w.name w.version m.name m.version w.success m.success b e z.1) (left true k)
    by_test false k = left_so h t y (Of.Tidy w) a (left false k)

-- A claim takes none back, by what stood.
by_claim : {me : List ℕ} (h : List Told) (t : Stamp) (y : ℕ) (w : Claim) (a : Answer) (at : At) → Inv me h
    → AtBase h at → w.name ≡ at.name → w.version ≡ at.cron.version → IsLater w.success at.cron.success
    → (o : Option Cron) → cron_at h w.name ≡ o
    → NoneBack h (next h t (Asked y (Of.Claim w) true a))
by_claim h t y w a at f base name version later None e =
    left_so h t y (Of.Claim w) a (ap (λ (o : Option Cron). (claim (state_of h) t w o).cluster.crons) e)
by_claim h t y w a at f base name version later (Some b) e = by_test (takes w.uid w.version b) refl
  where
    left : (q : Bool) → takes w.uid w.version b ≡ q → (claim (state_of h) t w (cron_at h w.name)).cluster.crons
        ≡ (if q then puts_cron (state_of h) (Is.Written t.version) w.name (claimed t w b) else refuses
        (state_of h)).cluster.crons
    left q k =
        ap (λ (o : Option Cron). (claim (state_of h) t w o).cluster.crons) e
        ∙ ap (λ (z : Bool). (if z then puts_cron (state_of h) (Is.Written t.version) w.name (claimed t w b) else refuses
        (state_of h)).cluster.crons) k

    by_test : (q : Bool) → takes w.uid w.version b ≡ q → NoneBack h (next h t (Asked y (Of.Claim w) true a))
    by_test true k =
        let z = both_true (is_same b.uid w.uid) (is_same b.version w.version) k in
        put_so h t y (Of.Claim w) a w.name b (claimed t w b) e refl
        (read_so h at f base w.name w.version name version w.success later b e z.1) (left true k)
    by_test false k = left_so h t y (Of.Claim w) a (left false k)

-- A status without its dead takes none back, by what its sync knows.
tidy_so : {me : List ℕ} (h : List Told) (t : Stamp) (y : ℕ) (w : Tidy) (a : Answer) → Inv me h → (s : Sync)
    → SyncFact me h s → May s (Of.Tidy w) → NoneBack h (next h t (Asked y (Of.Tidy w) true a))
tidy_so h t y w a f Fresh k m = absurd m
tidy_so h t y w a f (Looking at [] held) k m = absurd m
tidy_so h t y w a f (Looking at (x ∷ rs) held) k m = absurd m
tidy_so h t y w a f (Ready at) k m = by_tidy h t y w a at f k.base m (cron_at h w.name) refl
tidy_so h t y w a f (Holding at x) k m = by_tidy h t y w a at f k.base m (cron_at h w.name) refl
tidy_so h t y w a f (Starting at x []) k m = absurd m
tidy_so h t y w a f (Starting at x (d ∷ ds)) k m = absurd m
tidy_so h t y w a f (Tidying at gs fs) k m = absurd m
tidy_so h t y w a f Gone k m = absurd m
tidy_so h t y w a f Over k m = absurd m

-- A claim takes none back, by what its sync knows.
claim_so : {me : List ℕ} (h : List Told) (t : Stamp) (y : ℕ) (w : Claim) (a : Answer) → Inv me h
    → May (seen_of (own y h)) (Of.Claim w) → NoneBack h (next h t (Asked y (Of.Claim w) true a))
claim_so {me} h t y w a f m =
    let c = claiming me h w (seen_of (own y h)) (f.syncs y) m in
    by_claim h t y w a c.at f c.fact.base c.may.name c.may.version c.may.success (cron_at h w.name) refl

-- Whatever a sync calls takes none back.
call_so : {me : List ℕ} (h : List Told) (t : Stamp) (y : ℕ) (call : Call) (reached : Bool) (a : Answer) → Inv me h
    → May (seen_of (own y h)) call → NoneBack h (next h t (Asked y call reached a))
call_so h t y call false a f m = λ n c is. same_cron (next h t (Asked y call false a)) n c is
call_so h t y (Of.GetCron k) true a f m = left_so h t y (Of.GetCron k) a refl
call_so h t y (Of.CacheCron k) true a f m = left_so h t y (Of.CacheCron k) a refl
call_so h t y (Of.GetJob k) true a f m = left_so h t y (Of.GetJob k) a refl
call_so h t y (Of.CacheJob k) true a f m = left_so h t y (Of.CacheJob k) a refl
call_so h t y Of.ListJobs true a f m = left_so h t y Of.ListJobs a refl
call_so h t y (Of.Create k j) true a f m =
    left_so h t y (Of.Create k j) a (crons_create (state_of h) t k j (job_at h k))
call_so h t y (Of.Claim w) true a f m = claim_so h t y w a f m
call_so h t y (Of.Tidy w) true a f m = tidy_so h t y w a f (seen_of (own y h)) (f.syncs y) m
call_so h t y (Of.Start r) true a f m =
    left_so h t y (Of.Start r) a (crons_start (state_of h) t r (look (state_of h).jobs r))
call_so h t y (Of.Delete r) true a f m =
    left_so h t y (Of.Delete r) a (crons_delete_where (state_of h) t r (look (state_of h).jobs r))
call_so h t y (Of.Expire r v now) true a f m =
    left_so h t y (Of.Expire r v now) a (crons_expire (state_of h) t r v (look (state_of h).jobs r))

-- No entry of a sync takes the last success of the CronJob back.
success_by : {me : List ℕ} (h : List Told) (t : Stamp) (d : Deed) → Inv me h → MayDo h d
    → KeepsSuccess me (record { stamp = t; deed = d }) h d
success_by h t (Asked y call reached a) f m = λ n c is mine. call_so h t y call reached a f m n c is
success_by h t (Wrote x) f m = tt

-- No sync's call takes the last success of the CronJob back.
pub success_kept : SuccessLaw
success_kept u = always_by u (IsSuccessKept u) (λ e h f m. success_by h e.stamp e.deed f m)
