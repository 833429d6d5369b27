-- manifest_report: its ensures where the manifest is read without a fault.
use Rattle.cj_check.proofs.report.manifest_report.Goals as goal

pub returns-in-Ok : goal.returns-in-Ok
returns-in-Ok c =
    c.fine_report.ensures c.args.bytes.now (rw c.as_slice.ensures.value c.in-Ok.ensures.read)
