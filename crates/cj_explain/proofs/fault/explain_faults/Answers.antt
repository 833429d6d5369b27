-- explain_faults: its loop's invariant, with the line of the next fault, and its clause behind the last one.
use Rattle.std.proofs.Common.{◌≡◌, ◌++◌, option_map, string_bytes, rules, arith}
use Rattle.cj_explain.proofs.FaultLines.{leads_end, leads_get}
use Rattle.cj_explain.proofs.fault.explain_faults.Goals as goal

pub loop-fault-preserved : goal.loop-fault-preserved
loop-fault-preserved c =
    let so_far = string_bytes c.loop-fault.lines in
    let line = string_bytes c.in_ok-line.line in
    let is : string_bytes c.push_str.new.self ≡ so_far ++ line = search rules in
    leads_get (option_map (λ s. s.now) c.args.text) c.args.faults.now c.loop-fault.fault-index _ so_far line
    (string_bytes c.push_str.new.self) c.loop-fault-test.true c.loop-fault.invariant c.in_ok-line.ensures is

pub returns : goal.returns
returns c =
    leads_end (option_map (λ s. s.now) c.args.text) c.args.faults.now c.loop-fault.fault-index
    (string_bytes c.loop-fault.lines) (omega arith) c.loop-fault.invariant
