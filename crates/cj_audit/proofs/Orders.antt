-- The orders of findings and of Jobs.
use Rattle.std.proofs.Common.{◌≡◌, ◌<◌, ◌≤◌, ℕ, false, Some, None, refl, ap, arith}
use Rattle.std.specs.Cmp.{IsTotalOrder, IsStrictWeakOrder}
use Rattle.std.specs.Cmp.Lexicographic.{slice_cmp}
use Rattle.std.specs.Option.{option_cmp}
use Rattle.std.specs.Ordering.{nat_cmp, is_lt, ordering_then}
use Rattle.std.specs.declared.cmp.Ordering.{Ordering}
use Rattle.std.specs.declared.cmp.Ordering.TheVariants.{Less, Equal, Greater}
use Rattle.std.specs.FinMap.{IsAntisymmetric, slice_cmp-IsAntisymmetric, nat_cmp-IsAntisymmetric}
use Rattle.std.proofs.lemmas.Cmp.{nat_cmp_total, nat_list_cmp_total, on_total, then_total, ranked}
use Rattle.std.proofs.lemmas.List.Sorted.{ranks_by}
use Rattle.cj_audit.specs.declared.kind.Exclusive.TheVariants.{UnderForbid, UnderReplace}
use Rattle.cj_audit.specs.declared.kind.FindingKind.TheVariants.{Twice, Beside, Undue, Early, Missing, Stray, Stuck}
use Rattle.cj_audit.specs.declared.pairing.Pairing.{Pairing}
use Rattle.cj_audit.specs.declared.run.Run.{Run}
use Rattle.cj_audit.specs.Order.{finding_cmp, kind_cmp}
use Rattle.cj_audit.specs.Pairs.{comes_before, key_of, name_of, run_cmp}

-- Where two orders, one asked after the other, give Equal, each of them is Equal.
both_equal : (o p : Ordering) → ordering_then o p ≡ Equal → (o ≡ Equal) × (p ≡ Equal)
both_equal Less p h = cc
both_equal Equal p h = (refl, h)
both_equal Greater p h = cc

-- Kinds that compare alike are one.
kinds_exact : IsAntisymmetric kind_cmp
kinds_exact Twice Twice e = refl
kinds_exact (Beside UnderForbid) (Beside UnderForbid) e = refl
kinds_exact (Beside UnderReplace) (Beside UnderReplace) e = refl
kinds_exact Undue Undue e = refl
kinds_exact Early Early e = refl
kinds_exact Missing Missing e = refl
kinds_exact Stray Stray e = refl
kinds_exact Stuck Stuck e = refl
kinds_exact Twice b e = absurd (cc e)
kinds_exact (Beside x) b e = absurd (cc e)
kinds_exact Undue b e = absurd (cc e)
kinds_exact Early b e = absurd (cc e)
kinds_exact Missing b e = absurd (cc e)
kinds_exact Stray b e = absurd (cc e)
kinds_exact Stuck b e = absurd (cc e)

-- Texts that compare alike are one.
texts_exact : IsAntisymmetric (slice_cmp nat_cmp)
texts_exact = slice_cmp-IsAntisymmetric nat_cmp-IsAntisymmetric

-- So are texts that may be there.
options_exact : IsAntisymmetric (option_cmp (slice_cmp nat_cmp))
options_exact None None e = refl
options_exact None (Some y) e = absurd (cc e)
options_exact (Some x) None e = absurd (cc e)
options_exact (Some x) (Some y) e = ap Some (texts_exact x y e)

-- Findings that compare alike are one.
pub findings_exact : IsAntisymmetric finding_cmp
findings_exact x y h =
    let kind = both_equal _ _ h in
    let second = both_equal _ _ kind.0 in
    let first = both_equal _ _ second.0 in
    let time = both_equal _ _ first.0 in
    let cron = both_equal _ _ time.0 in
    let a : x.namespace ≡ y.namespace = texts_exact _ _ cron.0 in
    let b : x.cron ≡ y.cron = texts_exact _ _ cron.1 in
    let c : x.time ≡ y.time = nat_cmp-IsAntisymmetric _ _ time.1 in
    let d : x.first ≡ y.first = texts_exact _ _ first.1 in
    let e : x.second ≡ y.second = options_exact _ _ second.1 in
    let f : x.kind ≡ y.kind = kinds_exact _ _ kind.1 in
    λ i. record { namespace = a i; cron = b i; time = c i; first = d i; second = e i; kind = f i }

-- Jobs are in a total order, by a time, then by name.
pub runs_total : (p : Pairing) → IsTotalOrder (run_cmp p)
runs_total p = then_total (on_total (key_of p) nat_cmp_total) (on_total name_of nat_list_cmp_total)

-- So they can be sorted.
pub runs_rank : (p : Pairing) → IsStrictWeakOrder (comes_before p)
runs_rank p = ranks_by {R = run_cmp p} (runs_total p) (λ run. run)

-- Of two Jobs of which one doesn't come before the other, the other's time is no later.
pub key_le : (p : Pairing) (a b : Run) → comes_before p a b ≡ false → key_of p b ≤ key_of p a
key_le p a b h = by (nat_cmp (key_of p a) (key_of p b)) (slice_cmp nat_cmp (name_of a) (name_of b)) (key_of p a)
    (key_of p b) refl h
  where
    by : (o r : Ordering) (x y : ℕ) → o ≡ nat_cmp x y → is_lt (ordering_then o r) ≡ false → y ≤ x
    by Less r x y e h = absurd (cc h)
    by Equal r x y e h = let same : x ≡ y = ranked x y Equal e in omega arith
    by Greater r x y e h = let above : y < x = ranked x y Greater e in omega arith
