-- The names of the members of a whole text, of `meta`, of a thread, of its tables and of a category.
use Rattle.std.specs.Prelude.{ℕ, List, codes}
use Rattle.prof_members.specs.Names.{member_name}
use Rattle.prof_members.specs.declared.categories.CategoryMember.{CategoryMember}
use Rattle.prof_members.specs.declared.categories.CategoryMember.TheVariants as category
use Rattle.prof_members.specs.declared.markers.MarkerMember.{MarkerMember}
use Rattle.prof_members.specs.declared.markers.MarkerMember.TheVariants as marker
use Rattle.prof_members.specs.declared.threads.ThreadMember.{ThreadMember}
use Rattle.prof_members.specs.declared.threads.ThreadMember.TheVariants as thread
use Rattle.prof_members.specs.declared.parts.MetaMember.{MetaMember}
use Rattle.prof_members.specs.declared.parts.MetaMember.TheVariants as meta
use Rattle.prof_members.specs.declared.parts.ProfileMember.{ProfileMember}
use Rattle.prof_members.specs.declared.parts.ProfileMember.TheVariants as profile
use Rattle.prof_members.specs.declared.shared.ResourceMember.{ResourceMember}
use Rattle.prof_members.specs.declared.shared.ResourceMember.TheVariants as resource_table
use Rattle.prof_members.specs.declared.shared.FuncMember.{FuncMember}
use Rattle.prof_members.specs.declared.shared.FuncMember.TheVariants as func_table
use Rattle.prof_members.specs.declared.shared.FrameMember.{FrameMember}
use Rattle.prof_members.specs.declared.shared.FrameMember.TheVariants as frame_table
use Rattle.prof_members.specs.declared.shared.StackMember.{StackMember}
use Rattle.prof_members.specs.declared.shared.StackMember.TheVariants as stack_table

abbrev pub category_member_name : CategoryMember → List ℕ
category_member_name category.Name = codes "name"
category_member_name category.Color = codes "color"

abbrev pub marker_name : MarkerMember → List ℕ
marker_name marker.Phase = codes "phase"
marker_name marker.Name = codes "name"
marker_name marker.StartTime = codes "startTime"
marker_name marker.EndTime = codes "endTime"
marker_name marker.Data = codes "data"
marker_name marker.Length = codes "length"

abbrev pub thread_member_name : ThreadMember → List ℕ
thread_member_name thread.Name = codes "name"
thread_member_name thread.Samples = codes "samples"
thread_member_name thread.Markers = codes "markers"
thread_member_name (thread.Shared m) = member_name m

abbrev pub meta_name : MetaMember → List ℕ
meta_name meta.ProcessedVersion = codes "preprocessedProfileVersion"
meta_name meta.Categories = codes "categories"

abbrev pub profile_name : ProfileMember → List ℕ
profile_name profile.Meta = codes "meta"
profile_name profile.Shared = codes "shared"
profile_name profile.Threads = codes "threads"

abbrev pub resource_member_name : ResourceMember → List ℕ
resource_member_name resource_table.Name = codes "name"
resource_member_name resource_table.Length = codes "length"

abbrev pub func_member_name : FuncMember → List ℕ
func_member_name func_table.Name = codes "name"
func_member_name func_table.IsJs = codes "isJS"
func_member_name func_table.RelevantForJs = codes "relevantForJS"
func_member_name func_table.Resource = codes "resource"
func_member_name func_table.FileName = codes "fileName"
func_member_name func_table.Length = codes "length"

abbrev pub frame_member_name : FrameMember → List ℕ
frame_member_name frame_table.Func = codes "func"
frame_member_name frame_table.Category = codes "category"
frame_member_name frame_table.Length = codes "length"

abbrev pub stack_member_name : StackMember → List ℕ
stack_member_name stack_table.Frame = codes "frame"
stack_member_name stack_table.Prefix = codes "prefix"
stack_member_name stack_table.Length = codes "length"
