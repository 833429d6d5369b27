-- refused_scene: its clause says, for the faults Syntax, Form and Manifest.
use Rattle.cj_check.proofs.plan.refused_scene.Goals as goal

pub returns-in-Syntax-clause-says : goal.returns-in-Syntax-clause-says
returns-in-Syntax-clause-says c = rw c.in-Syntax.is (c.no_json.ensures c.args.wanted)

pub returns-in-Form-clause-says : goal.returns-in-Form-clause-says
returns-in-Form-clause-says c = rw c.in-Form.is c.no_form.ensures

pub returns-in_ok-faulty_manifest-in-Manifest-clause-says : goal.returns-in_ok-faulty_manifest-in-Manifest-clause-says
returns-in_ok-faulty_manifest-in-Manifest-clause-says c = rw c.in-Manifest.is
    (c.in_ok-faulty_manifest-in-Manifest.ensures c.args.wanted c.args.bytes.now)
